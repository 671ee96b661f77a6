-- Shards and counters, and the books for which they stand.
use Rattle.std.specs.{List.{AllByRecursion}, Prelude.{ℕ, ◌+◌, ◌<◌, List, length, slice_index_or}}
use Rattle.auction_rows.specs.{Book.{Book}, declared.requests.Object.{Object}}
use Rattle.item_shards.specs.Counting.{worker_of}
use Rattle.shard_boxes.specs.States.{ShardState}
use Rattle.worker_slices.specs.declared.counters.Counters.{Counters}
use Rattle.phase_transactions.specs.Workers.{no_counters}
use Rattle.phase_permits.specs.Replying.{CountsOf}
pub use Rattle.auction_shards.specs.Shards.{ShardsStandFor}

-- the counters of a worker
abbrev pub counters_at : List Counters → ℕ → Counters
counters_at counters worker = slice_index_or counters worker no_counters

-- the accepted stores of all kinds that are counted
abbrev pub stores : Counters → ℕ
stores counters = counters.items + counters.bids + counters.comments + counters.buys

-- each worker's counters count its rows of a book
abbrev pub AreCountersOf : List Counters → Book → Type 0
AreCountersOf counters book = (w : ℕ) → w < length counters →
    CountsOf book w (counters_at counters w)

-- each row is of one of so many workers
abbrev pub AreOfWorkers : ℕ → Book → Type 0
AreOfWorkers workers book = AllByRecursion (λ row. worker_of row < workers) book

-- shards and counters stand for a book, but for hot objects
pub record StandFor (states : List ShardState) (counters : List Counters) (book : Book)
    (hot : List Object) : Type 0 where
  -- the shards have the values that the book gives
  pub shards : ShardsStandFor states book hot
  -- the counters count the rows of the book
  pub counts : AreCountersOf counters book
