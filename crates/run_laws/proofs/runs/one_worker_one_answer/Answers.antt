use Rattle.run_laws.proofs.OneWorkerLemmas.{same_history, same_hots}
use Rattle.run_laws.proofs.runs.one_worker_one_answer.Goals as goal

pub returns-clause-history : goal.returns-clause-history
returns-clause-history c = λ opening start policy script hot other_hot history other answer answer'. same_history answer answer'

pub returns-clause-hot : goal.returns-clause-hot
returns-clause-hot c = λ opening start policy script hot other_hot history other answer answer'. same_hots answer answer'
