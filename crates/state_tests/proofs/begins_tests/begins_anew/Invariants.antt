use Rattle.std.proofs.Common.{length}
use Rattle.phase_floor.specs.States.{states_of}
use Rattle.state_tests.proofs.begins_tests.begins_anew.Given as goal

abbrev pub ghosts-joined_phase : goal.ghosts-joined_phase
ghosts-joined_phase g a = record { initial = states_of a.state; workers = length a.state.counters }
