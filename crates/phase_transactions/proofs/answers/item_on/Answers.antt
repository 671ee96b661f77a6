use Rattle.std.proofs.Common.{Option, Some, None, refl, sym, ap, subst, ◌∙◌}
use Rattle.auction_rows.specs.{ItemViews.{item_told}, declared.replies.ItemView.{ItemView}}
use Rattle.auction_rows.specs.declared.requests.Object.TheVariants.{Item}
use Rattle.item_shards.specs.{ShardContents.{LiesIn, contents}, Views.{item_view}}
use Rattle.item_shards.specs.declared.shard.Shard.{Shard}
use Rattle.phase_transactions.specs.Txns.{SuitsItem}
use Rattle.phase_transactions.proofs.answers.item_on.Goals as goal

-- what is told of an item suits the request
told_suits : (seen : Option ItemView) → SuitsItem (item_told seen)
told_suits None = tt
told_suits (Some seen) = tt

pub item_seen-requires : goal.item_seen-requires
item_seen-requires g c = record { here = subst (λ (s : Shard). LiesIn s (Item c.args.item)) (sym c.shard.ensures) (c.requires.here (Item c.args.item) refl) }

pub returns : goal.returns
returns g c = record {
  asked = refl;
  answers = λ counters worker. told_suits c.item_seen.result;
  holds = c.item_seen.ensures ∙ ap (λ (s : Shard). item_view (contents s (Item c.args.item))) c.shard.ensures;
}
