use Rattle.run_laws.proofs.StepLemmas.{phase_runs}
use Rattle.run_laws.proofs.runs.phase_runs.Goals as goal

pub returns : goal.returns
returns c = λ policy scripts phase worker hot hot_now history segment stashes after some run left performed.
    phase_runs policy some scripts phase hot hot_now history segment stashes after run performed worker left
