use Rattle.std.proofs.Common.{length}
use Rattle.phase_floor.specs.States.{states_of}
use Rattle.state_tests.proofs.sixteen_tests.two_phases.Given as goal

abbrev pub ghosts-joined_phase : goal.ghosts-joined_phase
ghosts-joined_phase g a = record { initial = states_of a.state; workers = length a.state.counters }

abbrev pub ghosts-split_phase : goal.ghosts-split_phase
ghosts-split_phase g a = record { initial = states_of a.state; workers = length a.state.counters }
