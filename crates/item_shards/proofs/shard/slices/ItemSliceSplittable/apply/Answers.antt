use Rattle.std.proofs.Common.{sym}
use Rattle.item_shards.proofs.shard.slices.ItemSliceSplittable.apply.Goals as goal

pub returns-then-only_counts : goal.returns-then-only_counts
returns-then-only_counts c =
    let same = c.if-only_counts.ensures in
    λ i. record { highest = c.apply.ensures i; bidder = sym same.greatest i; bids = c.apply-2.ensures i; top = sym same.listed i }

pub returns : goal.returns
returns c = λ i. record { highest = c.apply.ensures i; bidder = c.apply-3.ensures i; bids = c.apply-2.ensures i; top = c.apply-4.ensures i }
