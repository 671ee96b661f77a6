use Rattle.std.proofs.Common.{length}
use Rattle.phase_floor.specs.States.{states_of}
use Rattle.phase_tests.proofs.calls.phases.phases_by_hand.Given as goal

-- each phase opens with its state's shards and its worker
abbrev pub ghosts-joined_phase : goal.ghosts-joined_phase
ghosts-joined_phase g a = record { initial = states_of a.state; workers = length a.state.counters }

abbrev pub ghosts-split_phase : goal.ghosts-split_phase
ghosts-split_phase g a = record { initial = states_of a.state; workers = length a.state.counters }
