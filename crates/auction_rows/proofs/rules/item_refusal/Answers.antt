use Rattle.auction_rows.proofs.rules.item_refusal.Goals as goal

pub returns-in-StoreBid : goal.returns-in-StoreBid
returns-in-StoreBid c = rw c.in-StoreBid.is (c.bid_refusal.ensures c.in-StoreBid.bidder c.in-StoreBid.item)
