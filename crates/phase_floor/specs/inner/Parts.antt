-- The parts of receipts, and the slices that are merged as a phase closes.
use Rattle.std.specs.List.{AllByRecursion}
use Rattle.std.specs.Prelude.{◌≡◌, ℕ, ◌≤◌, Bool, true, false, List, [], map, length, reverse}
use Rattle.auction_rows.specs.declared.requests.Object.{Object}
use Rattle.item_shards.specs.declared.shard.slices.Slice.{Slice}
use Rattle.shard_boxes.specs.{Keys.{KeyState}, States.{ShardState}}
use Rattle.shard_boxes.specs.declared.limits.TheConstants.{MOST_COMMITS}
use Rattle.worker_journals.specs.Journals.{JournalView}
use Rattle.worker_slices.specs.{Slicing.{slices_in, HaveAtMost}, Stashes.{StashState}}
use Rattle.worker_slices.specs.declared.{counters.Counters.{Counters}, slices.Hot.{Hot}}
use Rattle.phase_transactions.specs.Workers.{WorkerState, IsExplained}
use Rattle.closing_laws.specs.Phases.{key_of, journal_of, counters_of}
use Rattle.auction_shards.specs.Shards.{IsKnown, opening_in}
use Rattle.phase_floor.specs.Closings.{stash_of}

-- The receipt is of a worker who has ended.
pub record IsFinished (shards : ℕ) (receipt : WorkerState) : Type 0 where
  -- its transactions explain it
  pub explained : IsExplained shards receipt
  -- its entries had room in its journal
  pub room : length receipt.journal.entries ≤ receipt.journal.room
  -- it has no more commits than a worker may ever have
  pub most : (counters_of receipt).commits ≤ MOST_COMMITS
  -- no slice has more operations than that
  pub few : HaveAtMost MOST_COMMITS receipt.slices

abbrev pub sliced_of : WorkerState → List (Object × Hot)
sliced_of receipt = receipt.slices

-- each slice is of an item, or of a user or category of the shards' opening
abbrev pub AreKnown : List ShardState → List (Object × Slice) → Type 0
AreKnown states pairs = AllByRecursion (λ pair. IsKnown (opening_in states) pair.0) pairs

-- a worker's slices, the last first
abbrev pub from_the_last : List (Object × Hot) → List (Object × Slice)
from_the_last slices = reverse (slices_in slices)

-- the parts of receipts, each kind by itself
pub record ArePartsOf (receipts : List WorkerState) (journals : List JournalView)
    (stashes : List StashState) (keys : List KeyState) (counters : List Counters) : Type 0 where
  pub journals_are : journals ≡ map journal_of receipts
  pub stashes_are : stashes ≡ map stash_of receipts
  pub keys_are : keys ≡ map key_of receipts
  pub counters_are : counters ≡ map counters_of receipts

-- the slices of receipts: none is kept of a joined phase
abbrev pub slices_kept : Bool → List WorkerState → List (List (Object × Hot))
slices_kept true receipts = []
slices_kept false receipts = map sliced_of receipts
