use Rattle.std.proofs.Common.{map}
use Rattle.shard_boxes.specs.States.{state_of}
use Rattle.phase_tests.proofs.calls.tests.first_store.Given as goal

abbrev pub ghosts-store : goal.ghosts-store
ghosts-store g a = record { initial = map state_of a.shards.items; workers = 1 }
