use Rattle.std.proofs.Common.{map}
use Rattle.shard_boxes.specs.States.{state_of}
use Rattle.phase_tests.proofs.permits.split_tests.a_hot_user_is_commented_on.Given as goal

abbrev pub ghosts-comment_on_a_hot_item : goal.ghosts-comment_on_a_hot_item
ghosts-comment_on_a_hot_item g a = record { initial = map state_of a.shards.items; workers = 1 }
