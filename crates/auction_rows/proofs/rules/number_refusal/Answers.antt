use Rattle.auction_rows.proofs.rules.number_refusal.Goals as goal

pub returns-in-StoreBid : goal.returns-in-StoreBid
returns-in-StoreBid c = rw c.in-StoreBid.is (c.bidder_refusal.ensures c.in-StoreBid.item c.in-StoreBid.amount c.in-StoreBid.time)
