use Rattle.std.proofs.Common.{refl, rules}
use Rattle.auction_rows.proofs.OrderLemmas.{bid_total, bid_same, item_total, item_same, object_total, object_same}
use Rattle.auction_rows.proofs.laws.orders.Goals as goal

pub returns : goal.returns
returns c = record {
  bids = λ a b. refl;
  bids_total = bid_total;
  bids_tell_apart = bid_same;
  items = λ a b. refl;
  items_total = item_total;
  items_tell_apart = item_same;
  objects = search rules;
  objects_total = object_total;
  objects_tell_apart = object_same;
}
