use Rattle.std.{proofs.Common.{map, length, ap, arith}, specs.List.{flat_map}}
use Rattle.std.specs.Vec.Iter.{into_iter_items}
use Rattle.shard_boxes.specs.States.{state_of}
use Rattle.phase_floor.proofs.Turns.{first_known, first_can, merged_next}
use Rattle.phase_floor.specs.inner.Parts.{from_the_last}
use Rattle.phase_floor.proofs.close.merge_all.Goals as goal

pub merge_own-requires : goal.merge_own-requires
merge_own-requires c =
    let old = map state_of c.args.shards.now in let now = map state_of c.loop-own.shards in let all = flat_map from_the_last c.args.slices.items in
    let left = flat_map from_the_last (into_iter_items c.loop-own.own-iterator) in let next = flat_map from_the_last (into_iter_items c.next.new.self) in
    let is = ap (flat_map from_the_last) c.in-Some.ensures.steps.0 in record {
      known = first_known old now all left (from_the_last c.in-Some.own) next is c.loop-own.invariant.merged;
      can = first_can old now all left (from_the_last c.in-Some.own) next is c.loop-own.invariant.merged;
    }

pub loop-own-preserved : goal.loop-own-preserved
loop-own-preserved c =
    let left = into_iter_items c.loop-own.own-iterator in let next = into_iter_items c.next.new.self in
    let step = c.in-Some.ensures.steps in record {
      len = omega (arith, step.1, c.loop-own.invariant.len, ap length step.0);
      merged = merged_next (map state_of c.args.shards.now) (map state_of c.loop-own.shards) (flat_map from_the_last c.args.slices.items) (flat_map from_the_last left)
          (from_the_last c.in-Some.own) (flat_map from_the_last next) (ap (flat_map from_the_last) step.0) c.loop-own.invariant.merged
          (map state_of c.merge_own.new.shards) c.merge_own.ensures;
    }
