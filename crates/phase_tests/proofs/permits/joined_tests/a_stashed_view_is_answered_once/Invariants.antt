use Rattle.std.proofs.Common.{map}
use Rattle.shard_boxes.specs.States.{state_of}
use Rattle.phase_tests.proofs.permits.joined_tests.a_stashed_view_is_answered_once.Given as goal

abbrev pub ghosts-one_waits : goal.ghosts-one_waits
ghosts-one_waits g a = record { initial = map state_of a.shards.items; workers = 1 }
