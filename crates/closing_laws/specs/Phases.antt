-- A phase that has closed: with what it began, what its workers did, and what it left.
use Rattle.std.specs.List.{AllByRecursion, IsDistinct}
use Rattle.std.specs.Prelude.{◌≡◌, ℕ, ◌<◌, List, [], Option, map, length, slice_index_or, ⊤}
use Rattle.phase_laws.specs.Order.{IsAscending, part}
use Rattle.auction_rows.specs.Requests.{same_object}
use Rattle.auction_rows.specs.declared.requests.Object.TheVariants.{Item, User, Category}
use Rattle.auction_rows.specs.declared.{requests.Facts.Facts, requests.Object.Object, rows.Entry.Entry}
use Rattle.item_shards.specs.Values.{stock}
use Rattle.worker_journals.specs.Journals.{JournalView, entry_number, entry_worker, empty_journal}
use Rattle.worker_journals.specs.Merged.{entries_of}
use Rattle.shard_boxes.specs.{Closed.{AreClosed}, Keys.{KeyState, no_key}, States.{ShardState}}
use Rattle.worker_slices.specs.{Slicing.{IsStocked}, declared.counters.Counters.{Counters}}
use Rattle.phase_transactions.specs.Txns.{Setting, hot_of}
use Rattle.phase_transactions.specs.Workers.{WorkerState, IsExplained, no_counters, new_worker, setting_of}
use Rattle.closing_laws.specs.Standing.{counters_at}
pub use Rattle.auction_shards.specs.Shards.{value_on}

-- a phase that has closed
pub record Phase : Type 0 where
  -- what the phase is run with
  pub setting : Setting
  -- the shards as the phase began
  pub initial : List ShardState
  -- each worker's counters as the phase began
  pub counters : List Counters
  -- each worker's receipt
  pub receipts : List WorkerState
  -- the shards that the boxes gave back
  pub given : List ShardState
  -- the entries of all journals
  pub entries : List Entry

-- a receipt of a worker that is none of the phase's and has done nothing
abbrev pub no_receipt : WorkerState
no_receipt =
    new_worker no_key (record { users = 0; categories = 0 }) no_counters (empty_journal 0 0 0)
    (record { requests = []; done = []; room = 0 }) [] 0 0

-- the receipt of a worker
abbrev pub receipt_at : List WorkerState → ℕ → WorkerState
receipt_at receipts worker = slice_index_or receipts worker no_receipt

-- a receipt's key
abbrev pub key_of : WorkerState → KeyState
key_of receipt = receipt.key

-- a receipt's journal
abbrev pub journal_of : WorkerState → JournalView
journal_of receipt = receipt.journal

-- a receipt's counters after the phase
abbrev pub counters_of : WorkerState → Counters
counters_of receipt = receipt.counters

-- what is fixed of a hot item was read from its shard
abbrev pub IsReadFrom : List ShardState → Object × Option (Facts × ℕ) → Type 0
IsReadFrom states (Item id, fixed) = fixed ≡ stock (value_on states (Item id))
IsReadFrom states (User user, fixed) = ⊤
IsReadFrom states (Category category, fixed) = ⊤

-- how a phase begins
pub record IsBegun (p : Phase) : Type 0 where
  -- the phase has a shard
  pub some : 0 < length p.initial
  -- the phase has as many shards as its setting says
  pub shards : p.setting.shards ≡ length p.initial
  -- each worker has counters and a receipt
  pub workers : length p.counters ≡ length p.receipts
  -- no object is hot twice
  pub distinct : IsDistinct same_object (hot_of p.setting)
  -- each hot item is stored, and its facts are fixed
  pub stocked : AllByRecursion IsStocked p.setting.stocks
  -- what is fixed was read from the shards
  pub read : AllByRecursion (IsReadFrom p.initial) p.setting.stocks

-- a worker's receipt, in a phase that the worker began with these counters and with clock 0
pub record IsReceiptOf (z : Setting) (worker : ℕ) (opened : Counters)
    (receipt : WorkerState) : Type 0 where
  -- there are transactions that explain it
  pub explained : IsExplained z.shards receipt
  -- the receipt is the worker's
  pub worker_is : receipt.key.worker ≡ worker
  -- the receipt is of this phase
  pub setting : setting_of receipt z.shards ≡ z
  -- the worker began with these counters, at clock 0
  pub begun : receipt.begun ≡ (opened, 0)

-- a receipt of each worker, in order
abbrev pub AreReceipts : Phase → Type 0
AreReceipts p = (w : ℕ) → w < length p.receipts →
    IsReceiptOf p.setting w (counters_at p.counters w) (receipt_at p.receipts w)

-- the entries are those of the journals, by number and then worker
pub record AreMerged (p : Phase) : Type 0 where
  -- the entries ascend by number and then worker
  pub ascending : IsAscending entry_number entry_worker p.entries
  -- the part of each worker is its journal
  pub parts : (w : ℕ) → part entry_worker w p.entries ≡ entries_of w (map journal_of p.receipts)

-- what permits, boxes and journals tell of a phase that has closed
pub record HasClosed (p : Phase) : Type 0 where
  -- how the phase began
  pub begun : IsBegun p
  -- what permits tell
  pub receipts : AreReceipts p
  -- what boxes tell
  pub boxes : AreClosed p.initial (length p.receipts) (map key_of p.receipts) p.given
  -- what journals tell
  pub merged : AreMerged p
