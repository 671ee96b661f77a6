use Rattle.auction_program.proofs.OneAnswer.{one_answer}
use Rattle.auction_program.proofs.execution.one_worker_has_one_answer.Goals as goal

pub returns : goal.returns
returns c = λ options input text added other more one first second. one_answer options input text added other more one first second
