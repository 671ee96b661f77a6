use Rattle.std.proofs.Common.{◌≡◌, Some, sym, ap, ◌∙◌}
use Rattle.auction_rows.specs.Refusals.{item_refusal}
use Rattle.item_shards.specs.Answering.{refusal_with}
use Rattle.item_shards.proofs.shard.items.refusal_with.Goals as goal

pub returns-in-Some : goal.returns-in-Some
returns-in-Some c =
    let refused : c.item_refusal.result ≡ item_refusal c.args.request.now (Some c.in-Some.facts) c.in-Some.left = c.item_refusal.ensures in
    refused ∙ ap (λ stock. refusal_with stock c.args.request.now) (sym c.in-Some.is)
