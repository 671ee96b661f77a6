-- Slices that are merged into the shards in which their objects lie.
use Rattle.std.specs.Int.{w64}
use Rattle.std.specs.Prelude.{◌+◌, ◌<◌, ◌^◌, ◌+ℤ◌, FitsSigned, IsSome, ⊤, List, length, slice_set}
use Rattle.auction_rows.specs.{Requests.{shard_of}, declared.requests.Object.{Object}}
use Rattle.auction_rows.specs.declared.requests.Object.TheVariants.{Item, User, Category}
use Rattle.item_shards.specs.Contents.{changed, bids_merged, comments_merged, items_merged}
use Rattle.item_shards.specs.{Values.{Value}, declared.shard.slices.Slice.{Slice}}
use Rattle.item_shards.specs.declared.shard.slices.Slice.TheVariants as slice
use Rattle.shard_boxes.specs.States.{ShardState, state_at}
use Rattle.auction_shards.specs.Shards.{value_on}

-- a value with a slice of its object merged
abbrev pub merged_with : Slice → Value → Value
merged_with (slice.Item s) value = bids_merged s value
merged_with (slice.User s) value = comments_merged s value
merged_with (slice.Category s) value = items_merged s value

-- the object of a slice
abbrev pub sliced_object : Object × Slice → Object
sliced_object pair = pair.0

-- the slice itself
abbrev pub slice_itself : Object × Slice → Slice
slice_itself pair = pair.1

-- a shard with a slice of an object merged
abbrev pub with_slice : ShardState → Object × Slice → ShardState
with_slice state pair = record state {
  contents = changed (sliced_object pair) (merged_with (slice_itself pair)) state.contents;
}

-- the shards after a slice of an object is merged into the one in which it lies
abbrev pub after_merge : List ShardState → Object × Slice → List ShardState
after_merge states pair =
    let s = shard_of (sliced_object pair) (length states) in
    slice_set states s (with_slice (state_at states s) pair)

-- a slice can be merged into a value of its object: it is of the object's kind, an item is stored,
-- and the sums fit their types
abbrev pub CanMergeInto : Value → Object × Slice → Type 0
CanMergeInto value (Item id, slice.Item s) =
    IsSome value.facts × (value.bids.bids + s.bids < 2 ^ 64)
CanMergeInto value (User user, slice.User s) =
    FitsSigned w64 (value.comments.rating +ℤ s.rating)
    × (value.comments.comments + s.comments < 2 ^ 64)
CanMergeInto value (Category category, slice.Category s) = ⊤
CanMergeInto value pair = ⊥

-- a slice can be merged into the shard in which its object lies
abbrev pub CanMerge : List ShardState → Object × Slice → Type 0
CanMerge states pair = CanMergeInto (value_on states (sliced_object pair)) pair
