use Rattle.std.proofs.Common.{length}
use Rattle.phase_floor.specs.States.{states_of}
use Rattle.state_tests.proofs.begins_tests.begins_split.Given as goal

abbrev pub ghosts-begin_split : goal.ghosts-begin_split
ghosts-begin_split g a = record { initial = states_of a.state; workers = length a.state.counters }
