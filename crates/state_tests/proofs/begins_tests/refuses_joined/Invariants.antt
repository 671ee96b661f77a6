use Rattle.std.proofs.Common.{length}
use Rattle.phase_floor.specs.States.{states_of}
use Rattle.state_tests.proofs.begins_tests.refuses_joined.Given as goal

abbrev pub ghosts-begin_joined : goal.ghosts-begin_joined
ghosts-begin_joined g a = record { initial = states_of a.state; workers = length a.state.counters }
