use Rattle.std.proofs.Common.{[], ◌∷◌, map, refl}
use Rattle.auction_rows.specs.declared.requests.Object.{Object}
use Rattle.item_shards.specs.declared.shard.slices.Slice.{Slice}
use Rattle.shard_boxes.specs.States.{state_of}
use Rattle.phase_floor.proofs.Turns.{first_known, first_can, merged_next, last_first, shorter}
use Rattle.phase_floor.specs.inner.Parts.{from_the_last}
use Rattle.phase_floor.proofs.close.merge_own.Goals as goal

pub loop-object-init : goal.loop-object-init
loop-object-init c = record { known = c.requires.known; can = c.requires.can; whole = refl }

pub merge-requires : goal.merge-requires
merge-requires c =
    let pair : Object × Slice = (c.in-Some.object, c.in-Some.slice) in let rest = c.pop.new.self in
    let is = last_first c.loop-object.slices rest pair c.in-Some.ensures.last in
    let old = map state_of c.args.shards.now in let now = map state_of c.loop-object.shards in
    let all = from_the_last c.args.slices in let left = from_the_last c.loop-object.slices in
    record {
      known = (first_known old now all left (pair ∷ []) (from_the_last rest) is c.loop-object.invariant).0;
      can = (first_can old now all left (pair ∷ []) (from_the_last rest) is c.loop-object.invariant).0;
    }

pub loop-object-preserved : goal.loop-object-preserved
loop-object-preserved c =
    let pair : Object × Slice = (c.in-Some.object, c.in-Some.slice) in let rest = c.pop.new.self in
    let is = last_first c.loop-object.slices rest pair c.in-Some.ensures.last in
    merged_next (map state_of c.args.shards.now) (map state_of c.loop-object.shards) (from_the_last c.args.slices) (from_the_last c.loop-object.slices) (pair ∷ []) (from_the_last rest) is c.loop-object.invariant
    (map state_of c.merge.new.self) c.merge.ensures

pub loop-object-smaller : goal.loop-object-smaller
loop-object-smaller c = shorter c.loop-object.slices c.pop.new.self (c.in-Some.object, c.in-Some.slice) c.in-Some.ensures.last
