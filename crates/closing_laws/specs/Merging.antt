-- The slices of the workers, all merged.
use Rattle.std.specs.List.{Sorted.{IsPermutation}, flat_map}
use Rattle.std.specs.Prelude.{◌≡◌, ℕ, ◌<◌, List, fold, length}
use Rattle.auction_rows.specs.declared.requests.Object.{Object}
use Rattle.item_shards.specs.declared.shard.slices.Slice.{Slice}
use Rattle.shard_boxes.specs.States.{ShardState, state_at}
use Rattle.phase_transactions.specs.Workers.{WorkerState}
use Rattle.worker_slices.specs.Slicing.{slices_in}
use Rattle.closing_laws.specs.Phases.{Phase}
pub use Rattle.auction_shards.specs.Merging.{merged_with, sliced_object, slice_itself, with_slice, after_merge, CanMergeInto, CanMerge}

-- the slices of all workers, each with its object
abbrev pub slices_left : List WorkerState → List (Object × Slice)
slices_left receipts = flat_map (λ receipt. slices_in receipt.slices) receipts

-- all slices of all workers are merged into the shards that the boxes gave back; clocks don't matter
pub record IsReconciled (p : Phase) (closing : List ShardState) : Type 0 where
  -- the order in which the slices are merged
  pub order : List (Object × Slice)
  -- each slice is merged once
  pub each : IsPermutation (slices_left p.receipts) order
  -- there are as many shards as before
  pub count : length closing ≡ length p.given
  -- each shard has the contents that merging leaves
  pub contents : (s : ℕ) → s < length p.given →
      (state_at closing s).contents ≡ (state_at (fold after_merge p.given order) s).contents
