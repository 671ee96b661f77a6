-- A phase that is open, and what it begins with.
use Rattle.std.specs.List.{AllByRecursion, IsDistinct}
use Rattle.std.specs.Prelude.{◌≡◌, ℕ, ◌+◌, ◌<◌, ◌≤◌, ◌^◌, List, [], Option, length, slice_index, slice_index_or}
use Rattle.auction_rows.specs.Requests.{same_object}
use Rattle.auction_rows.specs.declared.{values.Opening.Opening, requests.Facts.Facts, requests.Object.Object}
use Rattle.shard_boxes.specs.{Keys.{BoxId, KeyState, IsNewKey}, States.{ShardState}}
use Rattle.worker_journals.specs.Journals.{empty_journal}
use Rattle.worker_slices.specs.{Slicing.{hot_objects, slices_of, IsStocked}, Stashes.{StashState}}
use Rattle.worker_slices.specs.declared.counters.Counters.{Counters}
use Rattle.phase_transactions.specs.Workers.{new_worker, WorkerState}
use Rattle.closing_laws.specs.{Phases.{IsReadFrom}, Standing.{counters_at}}
use Rattle.phase_floor.specs.States.{DoAllExist, IsKept}

-- what is fixed of each hot object: of an item its facts and how many are left
abbrev pub Stocks : Type 0
Stocks = List (Object × Option (Facts × ℕ))

-- An open phase.
pub record FloorState : Type 0 where
  -- the users and categories
  pub opening : Opening
  -- how many requests each worker may commit
  pub limit : ℕ
  -- the phase's number
  pub phase : ℕ
  -- the counters with which each worker begins
  pub counters : List Counters
  -- what is fixed of each hot object: there is none in a joined phase
  pub stocks : List (Object × Option (Facts × ℕ))
  -- a box for each shard
  pub boxes : List BoxId

-- the hot objects exist, none is named twice, and what is fixed of each is what the shards show
pub record AreStocksOf (opening : Opening) (states : List ShardState) (stocks : Stocks)
    : Type 0 where
  pub exist : DoAllExist opening states (hot_objects stocks)
  pub distinct : IsDistinct same_object (hot_objects stocks)
  pub stocked : AllByRecursion IsStocked stocks
  pub read : AllByRecursion (IsReadFrom states) stocks

-- an open phase keeps what was kept before it, and has a box for each shard
pub record IsOpen (states : List ShardState) (workers : ℕ) (floor : FloorState) : Type 0 where
  -- it has what a phase needs to begin
  pub kept : IsKept floor.opening floor.limit states floor.counters
  -- there is a box for each shard
  pub boxes_are : length floor.boxes ≡ length states
  -- and counters for each worker
  pub workers_are : length floor.counters ≡ workers
  -- what is fixed of the hot objects is what the shards show
  pub stocks_are : AreStocksOf floor.opening states floor.stocks
  -- there is a number for the next phase
  pub not_last : floor.phase + 1 < 2 ^ 64

-- the permit of a worker who has done nothing in the phase, with this quota, stash and key
abbrev pub new_permit : FloorState → ℕ → ℕ → StashState → KeyState → WorkerState
new_permit floor worker quota stash key =
    new_worker key floor.opening (counters_at floor.counters worker)
    (empty_journal floor.phase worker (length stash.requests + quota)) stash
    (slices_of floor.stocks []) quota 0

-- the worker's permit is such a new one, with a new key to the phase's boxes, and asks for no more
-- commits than the limit
pub record IsNewPermit (floor : FloorState) (worker quota : ℕ) (stash : StashState)
    (permit : WorkerState) : Type 0 where
  pub new : permit ≡ new_permit floor worker quota stash permit.key
  pub key : IsNewKey floor.boxes worker permit.key
  pub fits :
      (counters_at floor.counters worker).commits + length stash.requests + quota ≤ floor.limit

abbrev pub no_stash : StashState
no_stash = record { requests = []; done = []; room = 0 }

abbrev pub stash_at : List StashState → ℕ → StashState
stash_at stashes worker = slice_index_or stashes worker no_stash

-- each worker's permit is newly begun, in order
abbrev pub AreBegun : FloorState → List ℕ → List StashState → List WorkerState → Type 0
AreBegun floor quotas stashes permits =
    (length permits ≡ length floor.counters)
    × ((w : ℕ) (d : WorkerState) → w < length floor.counters →
    IsNewPermit floor w (slice_index quotas w) (stash_at stashes w) (slice_index_or permits w d))
