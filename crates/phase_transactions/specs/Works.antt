-- What a worker has done in a phase, and by which transactions that is explained.
use Rattle.std.specs.List.{AllByRecursion}
use Rattle.std.specs.Prelude.{◌≡◌, ℕ, suc, max, if◌then◌else◌, List, [], ◌∷◌, ◌++◌, map, fold}
use Rattle.phase_laws.specs.{Numbers.{last_by, IsNumberedFrom}, Replay.{SawInTurn}}
use Rattle.auction_rows.specs.History.{row_of_entry, rows_of}
use Rattle.auction_rows.specs.declared.{requests.Object.Object, rows.Entry.Entry}
use Rattle.item_shards.specs.Writing.{writes_if}
use Rattle.shard_boxes.specs.Lines.{Line}
use Rattle.worker_slices.specs.Slicing.{slices_of, slices_after_acts}
use Rattle.worker_slices.specs.declared.{counters.Counters.{Counters}, slices.Hot.{Hot}}
use Rattle.phase_transactions.specs.Txns.{Setting, Txn, entry_of, txn_number, greatest_clock, takes, line_on, lines_owed, IsAnswered, after_txn}

-- what a worker has done: with which counters and which clock it began, its journal, the lines of
-- its key by shard, its clock, its counters, and the slices of the hot objects
pub record Work : Type 0 where
  -- the counters and the clock with which it began
  pub opened : Counters
  pub start : ℕ
  -- its journal
  pub entries : List Entry
  -- the lines of its key, by shard
  pub lines : ℕ → List Line
  -- its clock and its counters as they are
  pub clock : ℕ
  pub counters : Counters
  -- its slices of the hot objects
  pub slices : List (Object × Hot)

-- Transactions explain a worker's work: from the counters and the clock with which the worker
-- began, they give all the rest.
pub record Explains (z : Setting) (worker : ℕ) (work : Work) (txns : List Txn) : Type 0 where
  -- the transactions are this worker's
  pub own : AllByRecursion (λ txn. (entry_of txn).worker ≡ worker) txns
  -- their entries are the journal
  pub entries : work.entries ≡ map entry_of txns
  -- the key has the lines that they owe on each shard
  pub lines : (shard : ℕ) → work.lines shard ≡ lines_owed z shard txns
  -- the clock is the number of the last one
  pub clocked : work.clock ≡ last_by txn_number work.start txns
  -- the counters have counted each
  pub counts : work.counters ≡ fold after_txn work.opened txns
  -- each number is 1 + the greatest of the one before and of the clocks found
  pub numbered : IsNumberedFrom txn_number (greatest_clock z) work.start txns
  -- each is answered by what it saw and by the counters before it
  pub answered : SawInTurn (IsAnswered z) after_txn work.opened txns
  -- the slices are those of the rows that they add
  pub sliced : work.slices ≡ slices_of z.stocks (rows_of work.entries)

-- What a worker keeps between two requests: there are transactions that explain its work.
pub record IsWorkOf (z : Setting) (worker : ℕ) (work : Work) : Type 0 where
  pub txns : List Txn
  pub explained : Explains z worker work txns

-- What a commit owes: its number is 1 + the greatest of the worker's clock and the clocks found,
-- and its reply is the answer by what was seen and by the counters.
pub record IsCommitOf (z : Setting) (worker : ℕ) (work : Work) (txn : Txn) : Type 0 where
  pub own : (entry_of txn).worker ≡ worker
  pub numbered : txn_number txn ≡ suc (max work.clock (greatest_clock z txn))
  pub answered : IsAnswered z work.counters txn

-- the work after a commit
abbrev pub with_txn : Setting → Work → Txn → Work
with_txn z work txn = record work {
  entries = work.entries ++ entry_of txn ∷ [];
  lines = λ shard.
      if takes z shard txn then work.lines shard ++ line_on z shard txn ∷ [] else work.lines shard;
  clock = txn_number txn;
  counters = after_txn work.counters txn;
  slices = slices_after_acts work.slices (writes_if (row_of_entry (entry_of txn)));
}
