use Rattle.run_laws.proofs.ClosedLemmas.{phase_chosen, phase_numbered, segment_now}
use Rattle.run_laws.proofs.runs.phase_closes.Goals as goal

pub returns : goal.returns
returns c = record {
  chosen = phase_chosen;
  numbers = phase_numbered;
  last = λ policy scripts phase hot hot_now history segment stashes after run performed. segment_now phase history segment run.phases_before performed.phases;
}
