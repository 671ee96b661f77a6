use Rattle.run_laws.proofs.EndLemmas.{few_phases}
use Rattle.run_laws.proofs.runs.phases_are_few.Goals as goal

pub returns : goal.returns
returns c = λ policy scripts phase most hot history stashes some. few_phases policy some scripts phase most hot history stashes
