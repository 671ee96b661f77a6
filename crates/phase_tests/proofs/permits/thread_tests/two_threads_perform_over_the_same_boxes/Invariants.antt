use Rattle.std.proofs.Common.{map}
use Rattle.shard_boxes.specs.States.{state_of}
use Rattle.phase_tests.proofs.permits.thread_tests.two_threads_perform_over_the_same_boxes.Given as goal

abbrev pub ghosts-two_threads : goal.ghosts-two_threads
ghosts-two_threads g a = record { initial = map state_of a.shards.items; workers = 2 }
