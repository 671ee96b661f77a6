-- How a phase closes.
use Rattle.std.specs.List.{Sorted.{IsPermutation}, AllByRecursion}
use Rattle.std.specs.Prelude.{◌≡◌, ℕ, ◌+◌, ◌<◌, ◌≤◌, List, [], map, fold, length}
use Rattle.auction_rows.specs.{Book.{Book}, History.{ReplaysFrom, book_after}}
use Rattle.auction_rows.specs.declared.{requests.Object.Object, requests.Request.Request, rows.Entry.Entry}
use Rattle.item_shards.specs.{CommitNumbers.{last_number}, declared.shard.slices.Slice.{Slice}}
use Rattle.shard_boxes.specs.States.{ShardState}
use Rattle.worker_journals.specs.Journals.{IsJournalOf}
use Rattle.worker_slices.specs.{Slicing.{stocks_of}, Stashes.{StashState}}
use Rattle.phase_transactions.specs.{Performing.{greatest_seen}, Workers.{WorkerState}}
use Rattle.closing_laws.specs.{Lawful.{ClosesLawfully}, Merging.{slices_left}}
use Rattle.closing_laws.specs.Phases.{Phase, HasClosed, receipt_at, journal_of, counters_of}
use Rattle.closing_laws.specs.Standing.{StandFor, counters_at}
use Rattle.auction_shards.specs.{Merging.{after_merge}, Shards.{at_start}}
use Rattle.phase_floor.specs.{Floors.{FloorState}, States.{JoinedState, states_of, StandsFor}}

-- the worker's receipt of the phase: its key is to the phase's boxes, and it began with the floor's
-- counters, at clock 0
pub record IsReceipt (floor : FloorState) (worker : ℕ) (receipt : WorkerState) : Type 0 where
  -- its key is to the phase's boxes
  pub boxes_are : receipt.key.boxes ≡ floor.boxes
  -- it is the worker's
  pub worker_is : receipt.key.worker ≡ worker
  -- it is of the same auction
  pub opening_is : receipt.opening ≡ floor.opening
  -- it is of this phase
  pub phase_is : receipt.journal.phase ≡ floor.phase
  -- of the same hot objects
  pub stocks_are : stocks_of receipt.slices ≡ floor.stocks
  -- it began with the floor's counters, at clock 0
  pub begun : receipt.begun ≡ (counters_at floor.counters worker, 0)

-- each worker's receipt of the phase, in order
abbrev pub AreReceiptsOf : FloorState → List WorkerState → Type 0
AreReceiptsOf floor receipts =
    (length receipts ≡ length floor.counters)
    × ((w : ℕ) → w < length floor.counters → IsReceipt floor w (receipt_at receipts w))

abbrev pub stash_of : WorkerState → StashState
stash_of receipt = receipt.stash

-- the phase that began with these shards, ended with these receipts, and left these shards and
-- entries
abbrev pub phase_of : List ShardState → FloorState → List WorkerState → List ShardState →
    List Entry → Phase
phase_of initial floor receipts given entries = record {
  setting = record { opening = floor.opening; shards = length initial; stocks = floor.stocks };
  initial = initial;
  counters = floor.counters;
  receipts = receipts;
  given = given;
  entries = entries;
}

-- The phase has closed: the boxes gave back shards, and the states left are these with their clocks
-- at 0.
pub record HasSettled (initial : List ShardState) (floor : FloorState)
    (receipts : List WorkerState) (states : List ShardState) (entries : List Entry) : Type 0 where
  pub given : List ShardState
  pub closed : HasClosed (phase_of initial floor receipts given entries)
  pub states_are : states ≡ map at_start given

-- The phase has closed: the boxes gave back shards, into these the slices of all workers were
-- merged, each once, in some order, and the states left are what came of it, with their clocks at
-- 0.
pub record HasReconciled (initial : List ShardState) (floor : FloorState)
    (receipts : List WorkerState) (states : List ShardState) (entries : List Entry) : Type 0 where
  pub given : List ShardState
  pub closed : HasClosed (phase_of initial floor receipts given entries)
  pub order : List (Object × Slice)
  pub each : IsPermutation (slices_left receipts) order
  pub states_are : states ≡ map at_start (fold after_merge given order)

-- The phase closes lawfully with these receipts and entries, by the shards that its boxes gave
-- back, and leaves these states.
pub record HasClosedLawfully (initial : List ShardState) (floor : FloorState)
    (receipts : List WorkerState) (states : List ShardState) (entries : List Entry) : Type 0 where
  pub given : List ShardState
  pub lawful : ClosesLawfully (phase_of initial floor receipts given entries) states

-- What a phase that closes with these receipts and entries leaves: the state after it, and the
-- stashes.
pub record Leaves (initial : List ShardState) (floor : FloorState) (receipts : List WorkerState)
    (entries : List Entry) (state : JoinedState) (stashes : List StashState) : Type 0 where
  -- it is the next phase of the same auction
  pub opening_is : state.opening ≡ floor.opening
  pub limit_is : state.limit ≡ floor.limit
  pub phase_is : state.phase ≡ floor.phase + 1
  -- counters and stashes are those of the receipts
  pub counters_are : state.counters ≡ map counters_of receipts
  pub stashes_are : stashes ≡ map stash_of receipts
  -- the phase closed lawfully
  pub lawful : HasClosedLawfully initial floor receipts (states_of state) entries
  -- each worker's commits grow by its journal
  pub commits : (w : ℕ) → w < length receipts →
      (counters_at state.counters w).commits
      ≡ (counters_at floor.counters w).commits + length (journal_of (receipt_at receipts w)).entries
  -- they are within the limit, if its journal had no room for more
  pub within : (w : ℕ) → w < length receipts →
      (counters_at floor.counters w).commits + (journal_of (receipt_at receipts w)).room
      ≤ floor.limit → (counters_at state.counters w).commits ≤ state.limit
  -- no worker has met the end of commit numbers, whatever it was asked for
  pub numbers : (w : ℕ) → w < length receipts → (request : Request) →
      let receipt = receipt_at receipts w in
      greatest_seen initial receipt receipt.key request < last_number
  -- the entries replay from each book for which the state before stood
  pub replays : (book : Book) → StandFor initial floor.counters book [] →
      ReplaysFrom floor.opening book entries
  -- and the state after stands for the book after them
  pub stands : (book : Book) → StandFor initial floor.counters book [] →
      StandsFor state (book_after floor.opening book entries)

-- the requests of receipts' entries are those of scripts: each the one at its worker and index
abbrev pub AreOfScripts : List (List Request) → List WorkerState → Type 0
AreOfScripts scripts receipts = AllByRecursion (IsJournalOf scripts) (map journal_of receipts)
