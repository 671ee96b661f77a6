use Rattle.std.proofs.Common.{sym, ap, ◌∙◌}
use Rattle.item_shards.specs.declared.shard.slices.Slice.TheVariants as slice
use Rattle.worker_slices.specs.Slicing.{slice_with_bid}
use Rattle.worker_slices.proofs.slices.BidEntryOperation.apply_to.Goals as goal

pub returns-in-Item : goal.returns-in-Item
returns-in-Item c = ap slice.Item c.apply.ensures ∙ ap (slice_with_bid c.args.self) (sym c.in-Item.is)
