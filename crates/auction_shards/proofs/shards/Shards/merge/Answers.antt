use Rattle.std.proofs.Common.{List, map, sym, ap, ◌∙◌, subst, arith}
use Rattle.item_shards.specs.declared.shard.Shard.{Shard}
use Rattle.shard_boxes.specs.States.{state_of}
use Rattle.auction_shards.proofs.Merges.{placed, still_of_one}
use Rattle.auction_shards.specs.Merging.{CanMerge, CanMergeInto, after_merge}
use Rattle.auction_shards.specs.Shards.{AreOfOne, IsKnown, opening_in}
use Rattle.auction_shards.proofs.shards.Shards.merge.Goals as goal

pub merge_into-requires : goal.merge_into-requires
merge_into-requires c =
    let shards = c.self.inside.shards in let found = c.shard_of-place.ensures in
    let p = placed shards.items c.self.invariant c.args.object c.len.result c.shard_of-place.result c.index_mut.result.now (omega (arith, c.len.ensures, shards.ok.0)) found.shard found.within c.index_mut.ensures.value in
    let known = subst (λ (all : List Shard). IsKnown (opening_in (map state_of all)) c.args.object) (sym c.self.view_is) c.requires.known in
    let can = subst (λ (all : List Shard). CanMerge (map state_of all) (c.args.object, c.args.slice)) (sym c.self.view_is) c.requires.can in
    record {
      lies = p.lies;
      known = subst (λ opening. IsKnown opening c.args.object) (sym p.opening_is) known;
      can = subst (λ value. CanMergeInto value (c.args.object, c.args.slice)) p.value_is can;
    }

pub invariant_of-self : goal.invariant_of-self
invariant_of-self c =
    let shards = c.self.inside.shards in let found = c.shard_of-place.ensures in
    let p = placed shards.items c.self.invariant c.args.object c.len.result c.shard_of-place.result c.index_mut.result.now (omega (arith, c.len.ensures, shards.ok.0)) found.shard found.within c.index_mut.ensures.value in
    subst AreOfOne (sym (p.merged c.args.slice c.merge_into.new.shard c.merge_into.ensures)) (still_of_one (map state_of shards.items) (c.args.object, c.args.slice) c.self.invariant)

pub returns : goal.returns
returns c =
    let shards = c.self.inside.shards in let found = c.shard_of-place.ensures in
    let p = placed shards.items c.self.invariant c.args.object c.len.result c.shard_of-place.result c.index_mut.result.now (omega (arith, c.len.ensures, shards.ok.0)) found.shard found.within c.index_mut.ensures.value in
    p.merged c.args.slice c.merge_into.new.shard c.merge_into.ensures ∙ ap (λ (all : List Shard). after_merge (map state_of all) (c.args.object, c.args.slice)) c.self.view_is
