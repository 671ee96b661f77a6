use Rattle.std.{proofs.Common.{List, map, fold, sym, ap, ◌∙◌, subst}, specs.List.{flat_map}}
use Rattle.phase_laws.specs.Replay.{SawInTurn}
use Rattle.item_shards.specs.declared.shard.Shard.{Shard}
use Rattle.shard_boxes.specs.States.{state_of}
use Rattle.auction_shards.specs.{Merging.{CanMerge, after_merge}, Shards.{at_start}}
use Rattle.phase_floor.specs.inner.Parts.{AreKnown, from_the_last}
use Rattle.phase_floor.proofs.close.reconciled.Goals as goal

pub merge_all-requires-clause-known : goal.merge_all-requires-clause-known
merge_all-requires-clause-known c = subst (λ (shards : List Shard). AreKnown (map state_of shards) (flat_map from_the_last c.args.slices.items)) (sym c.from_vec-shards.ensures) c.requires.known

pub merge_all-requires-clause-can : goal.merge_all-requires-clause-can
merge_all-requires-clause-can c =
    subst (λ (shards : List Shard). SawInTurn CanMerge after_merge (map state_of shards) (flat_map from_the_last c.args.slices.items)) (sym c.from_vec-shards.ensures) c.requires.can

pub returns : goal.returns
returns c =
    c.reset_clocks.ensures
    ∙ ap (map at_start) (c.merge_all.ensures ∙ ap (λ (shards : List Shard). fold after_merge (map state_of shards) (flat_map from_the_last c.args.slices.items)) c.from_vec-shards.ensures)
