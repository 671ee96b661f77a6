use Rattle.std.proofs.Common.{map}
use Rattle.shard_boxes.specs.States.{state_of}
use Rattle.phase_tests.proofs.box_tests.a_caller_makes_the_line_of_its_acts.Given as goal

abbrev pub ghosts-put_by_hand : goal.ghosts-put_by_hand
ghosts-put_by_hand g a = record { initial = map state_of a.shards.items; workers = 1 }
