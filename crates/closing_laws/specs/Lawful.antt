-- How a phase closes lawfully.
use Rattle.std.specs.Prelude.{◌≡◌, ℕ, ◌<◌, true, false, List, map, fold, length}
use Rattle.phase_laws.specs.Order.{part}
use Rattle.auction_rows.specs.{Footprint.{is_hot}, History.{rows_of}, Phases.{IsNumbered}}
use Rattle.auction_rows.specs.declared.requests.Object.{Object}
use Rattle.item_shards.specs.{Values.{Value, value}, declared.shard.slices.Slice.{Slice}}
use Rattle.worker_journals.specs.Journals.{entry_worker}
use Rattle.shard_boxes.specs.{Lines.{IsShardHistory}, States.{ShardState, state_at}}
use Rattle.phase_transactions.specs.{Txns.{Txn, hot_of, entry_of}, Workers.{WorkerState}}
use Rattle.worker_slices.specs.Slicing.{slice_of, slices_of}
use Rattle.closing_laws.specs.{Histories.{lines_on}, Merging.{merged_with}}
use Rattle.closing_laws.specs.Phases.{Phase, value_on, journal_of, receipt_at}

-- a worker's slice of an object: it has the value that the accepted stores of the worker's journal give the object
abbrev pub slice_by : WorkerState → Object → Slice
slice_by receipt object = slice_of object (value (rows_of (journal_of receipt).entries) object)

-- a value of an object with one such slice of each worker merged
abbrev pub with_slices_by : List WorkerState → Object → Value → Value
with_slices_by receipts object old =
    fold (λ merged receipt. merged_with (slice_by receipt object) merged) old receipts

-- each worker has one slice of each hot object, and this is what its journal makes of it
abbrev pub AreSliced : Phase → Type 0
AreSliced p = (w : ℕ) → w < length p.receipts →
    let receipt = receipt_at p.receipts w in
    receipt.slices ≡ slices_of p.setting.stocks (rows_of (journal_of receipt).entries)

-- each hot object has what it had as the phase began, with one slice of each worker merged
abbrev pub AreHotMerged : Phase → List ShardState → Type 0
AreHotMerged p closing = (object : Object) → is_hot (hot_of p.setting) object ≡ true →
    value_on closing object ≡ with_slices_by p.receipts object (value_on p.initial object)

-- each other object has what its shard had of it as the boxes gave it back
abbrev pub AreOthersAsGiven : Phase → List ShardState → Type 0
AreOthersAsGiven p closing = (object : Object) → is_hot (hot_of p.setting) object ≡ false →
    value_on closing object ≡ value_on p.given object

-- a phase closes lawfully, and leaves these shards
pub record ClosesLawfully (p : Phase) (closing : List ShardState) : Type 0 where
  -- the entries ascend, and each number is 1 + the greatest that it follows
  pub numbers : IsNumbered p.setting.opening p.setting.shards (hot_of p.setting) p.entries
  -- the part of each worker is its journal
  pub parts : (w : ℕ) →
      part entry_worker w p.entries ≡ (journal_of (receipt_at p.receipts w)).entries
  -- the transactions of the entries
  pub txns : List Txn
  pub entries : map entry_of txns ≡ p.entries
  -- the lines of exactly these transactions lead from each initial shard to the one given back
  pub lists : (s : ℕ) → s < length p.initial →
      IsShardHistory p.initial (length p.receipts) s (lines_on p.setting s txns)
      (state_at p.given s)
  -- as many shards are given back as the phase opened with
  pub given : length p.given ≡ length p.initial
  -- as many shards are left
  pub left : length closing ≡ length p.initial
  -- each worker has one slice of each hot object
  pub slices : AreSliced p
  -- hot objects have these slices merged
  pub merged : AreHotMerged p closing
  -- no other object has changed since the boxes gave the shards back
  pub others : AreOthersAsGiven p closing
