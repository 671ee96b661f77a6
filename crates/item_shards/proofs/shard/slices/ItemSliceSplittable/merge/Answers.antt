use Rattle.item_shards.proofs.shard.slices.ItemSliceSplittable.merge.Goals as goal

pub returns : goal.returns
returns c = λ i. record { highest = c.merge.ensures i; bidder = c.merge-2.ensures i; bids = c.merge-3.ensures i; top = c.merge-4.ensures i }
