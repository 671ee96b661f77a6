use Rattle.std.proofs.Common.{map}
use Rattle.shard_boxes.specs.States.{state_of}
use Rattle.phase_tests.proofs.permits.split_tests.hot_bids_are_refused_and_stored.Given as goal

abbrev pub ghosts-bids_on_a_hot_item : goal.ghosts-bids_on_a_hot_item
ghosts-bids_on_a_hot_item g a = record { initial = map state_of a.shards.items; workers = 1 }
