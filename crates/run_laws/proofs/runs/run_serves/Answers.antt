use Rattle.run_laws.proofs.EndLemmas.{run_serves}
use Rattle.run_laws.proofs.runs.run_serves.Goals as goal

pub returns : goal.returns
returns c = λ opening policy scripts phase hot history stashes some. run_serves opening policy some scripts phase hot history stashes
