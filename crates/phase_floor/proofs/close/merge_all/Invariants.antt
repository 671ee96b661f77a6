use Rattle.std.{proofs.Common.{◌≡◌, length, map}, specs.List.{flat_map}}
use Rattle.std.specs.Vec.Iter.{into_iter_items, into_iter_len}
use Rattle.shard_boxes.specs.States.{state_of}
use Rattle.phase_floor.{proofs.Turns.{AreToMerge}, specs.inner.Parts.{from_the_last}}
use Rattle.phase_floor.proofs.close.merge_all.Given as goal

abbrev pub invariant-loop-own : goal.invariant-loop-own
invariant-loop-own l = let left = into_iter_items l.own-iterator in record {
  len : length left ≡ into_iter_len l.own-iterator;
  merged : AreToMerge (map state_of l.fn.shards) (map state_of l.shards) (flat_map from_the_last l.fn.slices.items) (flat_map from_the_last left);
}
