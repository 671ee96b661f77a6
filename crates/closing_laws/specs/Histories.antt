-- What a phase that has closed comes to.
use Rattle.std.specs.Prelude.{◌≡◌, ℕ, ◌<◌, ◌≤◌, List, [], map, filter, length}
use Rattle.phase_laws.specs.{Numbers.{shares, FollowsWhatItShares}, Order.{part}}
use Rattle.auction_rows.specs.{Book.{Book}, Footprint.{footprint, takes_shard}}
use Rattle.auction_rows.specs.History.{ReplaysFrom, book_after}
use Rattle.auction_rows.specs.declared.{values.Opening.Opening, requests.Object.Object, rows.Entry.Entry}
use Rattle.worker_journals.specs.Journals.{entry_number, entry_worker}
use Rattle.shard_boxes.specs.Lines.{Line}
use Rattle.phase_transactions.specs.Txns.{Setting, Txn, hot_of, entry_of, takes, line_on}
use Rattle.phase_transactions.specs.{Workers.{work_of}, Works.{Explains}}
use Rattle.closing_laws.specs.Phases.{Phase, HasClosed, counters_of, receipt_at}
use Rattle.closing_laws.specs.Standing.{StandFor}

-- a transaction's line with its worker
abbrev pub worker_line : Setting → ℕ → Txn → ℕ × Line
worker_line z shard txn = ((entry_of txn).worker, line_on z shard txn)

-- a shard's list of lines, as its box tells once it is closed
abbrev pub list_at : (p : Phase) → HasClosed p → (s : ℕ) → s < length p.initial → List (ℕ × Line)
list_at p closed s known = (closed.boxes.1 s known).lines

-- the lines that transactions put on a shard, in order
abbrev pub lines_on : Setting → ℕ → List Txn → List (ℕ × Line)
lines_on z s txns = map (worker_line z s) (filter (takes z s) txns)

-- each shard's list holds the lines of the entries that take the shard, in order, and nothing else
pub record HoldTheEntries (p : Phase) (closed : HasClosed p) : Type 0 where
  -- the transactions of the entries
  pub txns : List Txn
  pub entries : map entry_of txns ≡ p.entries
  -- each worker's transactions explain its receipt
  pub parts : (w : ℕ) → w < length p.receipts →
      Explains p.setting w (work_of (receipt_at p.receipts w))
      (part (λ txn. (entry_of txn).worker) w txns)
  -- and there are no others
  pub others : (w : ℕ) → length p.receipts ≤ w → part (λ txn. (entry_of txn).worker) w txns ≡ []
  -- each shard's list holds the lines of these transactions
  pub lists : (s : ℕ) (known : s < length p.initial) →
      list_at p closed s known ≡ lines_on p.setting s txns

-- each number is 1 + the greatest of the entries before it that are of its worker or share a shard with it, and 1 if there is none
abbrev pub FollowWhatTheyShare : Opening → ℕ → List Object → List Entry → Type 0
FollowWhatTheyShare opening shards hot =
    FollowsWhatItShares entry_number
    (shares entry_worker (footprint opening shards hot)
    (λ shard entry. takes_shard opening shards hot entry shard))

-- the book to which the entries of a phase lead
abbrev pub book_left : Phase → Book → Book
book_left p book = book_after p.setting.opening book p.entries

-- what a phase does to a book for which it began
pub record ReplaysAndStands (p : Phase) (book : Book) : Type 0 where
  -- from the book the entries replay
  pub replays : ReplaysFrom p.setting.opening book p.entries
  -- shards and counters stand for the book to which the entries lead, but for hot objects
  pub stand : StandFor p.given (map counters_of p.receipts) (book_left p book) (hot_of p.setting)
