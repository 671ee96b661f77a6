use Rattle.std.proofs.Common.{◌≡◌, None, Some, sym, ap, ◌∙◌}
use Rattle.auction_rows.specs.Refusals.{item_refusal}
use Rattle.item_shards.specs.Answering.{bid_request, refusal_with}
use Rattle.item_shards.proofs.shard.items.bid_refusal_with.Goals as goal

pub returns-in-Some : goal.returns-in-Some
returns-in-Some c item =
    let request = bid_request item c.args.bid in
    let refused : c.bid_refusal.result ≡ item_refusal request (Some c.in-Some.facts) c.in-Some.left = c.bid_refusal.ensures c.args.bid.bidder item in
    refused ∙ ap (λ stock. refusal_with stock request) (sym c.in-Some.is)

pub returns-in-None : goal.returns-in-None
returns-in-None c item =
    let request = bid_request item c.args.bid in
    let refused : c.bid_refusal-in-None.result ≡ item_refusal request None 0 = c.bid_refusal-in-None.ensures c.args.bid.bidder item in
    refused ∙ ap (λ stock. refusal_with stock request) (sym c.in-None.is)
