use Rattle.std.proofs.Common.{map}
use Rattle.shard_boxes.specs.States.{state_of}
use Rattle.phase_tests.proofs.worker_tests.workers_tell_the_end_of_numbers.Given as goal

abbrev pub ghosts-fault_at_the_end : goal.ghosts-fault_at_the_end
ghosts-fault_at_the_end g a = record { initial = map state_of a.shards.items; workers = 1 }
