use Rattle.std.proofs.Common.{length, map}
use Rattle.shard_boxes.specs.States.{state_of}
use Rattle.phase_floor.{proofs.Turns.{AreToMerge}, specs.inner.Parts.{from_the_last}}
use Rattle.phase_floor.proofs.close.merge_own.Given as goal

abbrev pub invariant-loop-object : goal.invariant-loop-object
invariant-loop-object l = AreToMerge (map state_of l.fn.shards) (map state_of l.shards) (from_the_last l.fn.slices) (from_the_last l.slices)

abbrev pub decreases-loop-object : goal.decreases-loop-object
decreases-loop-object l = length l.slices
