use Rattle.run_laws.proofs.{ClosedLemmas.{none_chosen, none_numbered}, StepLemmas.{run_begins}}
use Rattle.run_laws.proofs.runs.run_begins.Goals as goal

pub returns : goal.returns
returns c = record { run = run_begins; chosen = none_chosen; numbers = none_numbered }
