use Rattle.auction_text.proofs.MovedLemmas.{in_order-moved}
use Rattle.auction_text.proofs.laws.moved_in_order.Goals as goal

pub returns : goal.returns
returns c = in_order-moved
