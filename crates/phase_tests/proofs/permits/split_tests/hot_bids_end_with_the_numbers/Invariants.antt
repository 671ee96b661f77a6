use Rattle.std.proofs.Common.{map}
use Rattle.shard_boxes.specs.States.{state_of}
use Rattle.phase_tests.proofs.permits.split_tests.hot_bids_end_with_the_numbers.Given as goal

abbrev pub ghosts-stores_at_the_end : goal.ghosts-stores_at_the_end
ghosts-stores_at_the_end g a = record { initial = map state_of a.shards.items; workers = 1 }
