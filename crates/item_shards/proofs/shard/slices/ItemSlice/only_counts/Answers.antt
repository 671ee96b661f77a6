use Rattle.item_shards.proofs.AmountLemmas.{greatest_stays, past_outbid, then_on_true}
use Rattle.item_shards.proofs.shard.slices.ItemSlice.only_counts.Goals as goal

pub returns-then-is_outbid : goal.returns-then-is_outbid
returns-then-is_outbid c =
    let bid = c.args.bid.now in
    then_on_true c.is_outbid-then-is_outbid.result c.is_outbid-then-is_outbid.ensures (λ outbid. record {
      greatest = greatest_stays c.args.self.now.bidder c.value.result bid c.value.ensures outbid;
      listed = c.least.ensures bid (past_outbid bid c.least.result c.if-is_outbid.ensures);
    })
