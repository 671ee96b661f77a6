use Rattle.std.proofs.Common.{sym, ap, subst, ◌∙◌}
use Rattle.auction_rows.specs.declared.requests.Object.TheVariants.{Item}
use Rattle.item_shards.specs.Answering.{refusal_with, stock_needed}
use Rattle.item_shards.specs.{ShardContents.{LiesIn, contents}, declared.shard.Shard.{Shard}}
use Rattle.phase_transactions.proofs.taken.refusal_in.Goals as goal

pub returns-in-Nothing : goal.returns-in-Nothing
returns-in-Nothing g c = rw c.in-Nothing.is c.refusal_with.ensures

pub refusal-requires : goal.refusal-requires
refusal-requires g c = record { here = λ item needs. subst (λ (s : Shard). LiesIn s (Item item)) (sym c.shard.ensures) (rw c.in-One.is at (c.requires item needs)) }

pub returns-in-One : goal.returns-in-One
returns-in-One g c =
    let request = c.args.request.now in
    rw c.in-One.is (c.refusal.ensures ∙ ap (λ (s : Shard). refusal_with (stock_needed (contents s) request) request) c.shard.ensures)

pub refusal-requires-in-Two : goal.refusal-requires-in-Two
refusal-requires-in-Two g c = record { here = λ item needs. subst (λ (s : Shard). LiesIn s (Item item)) (sym c.shard-in-Two.ensures) (rw c.in-Two.is at (c.requires item needs)) }

pub returns-in-Two : goal.returns-in-Two
returns-in-Two g c =
    let request = c.args.request.now in
    rw c.in-Two.is (c.refusal-in-Two.ensures ∙ ap (λ (s : Shard). refusal_with (stock_needed (contents s) request) request) c.shard-in-Two.ensures)
