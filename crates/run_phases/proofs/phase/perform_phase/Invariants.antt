use Rattle.std.proofs.Common.{length}
use Rattle.phase_floor.specs.States.{states_of}
use Rattle.run_phases.proofs.phase.perform_phase.Given as goal

-- the phase is of the state's shards and workers
abbrev pub ghosts-perform_kind : goal.ghosts-perform_kind
ghosts-perform_kind g a = record { initial = states_of a.running.state; workers = length a.running.state.counters }

abbrev pub ghosts-perform_kind-2 : goal.ghosts-perform_kind-2
ghosts-perform_kind-2 g a = record { initial = states_of a.running.state; workers = length a.running.state.counters }
