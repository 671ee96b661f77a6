use Rattle.std.proofs.Common.{List, map, sym, ap, ◌∙◌, subst}
use Rattle.item_shards.specs.declared.shard.Shard.{Shard}
use Rattle.shard_boxes.specs.States.{state_of}
use Rattle.auction_shards.{proofs.Clocks.{one_at_start}, specs.Shards.{AreOfOne, at_start}}
use Rattle.auction_shards.proofs.shards.Shards.reset_clocks.Goals as goal

pub invariant_of-self : goal.invariant_of-self
invariant_of-self c = subst AreOfOne (sym c.reset_all.ensures) (one_at_start (map state_of c.self.inside.shards.items) c.self.invariant)

pub returns : goal.returns
returns c = c.reset_all.ensures ∙ ap (λ (shards : List Shard). map at_start (map state_of shards)) c.self.view_is
