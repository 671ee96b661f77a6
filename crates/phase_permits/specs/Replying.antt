-- What a commit saw, and the books for which its reply is the model's.
use Rattle.std.specs.Prelude.{◌≡◌, ◌-◌, ℕ, true, List, length, take, slice_get, Option, Some, ⊤}
use Rattle.auction_rows.specs.Book.{Book, items_stored, bids_stored, comments_stored, buys_stored}
use Rattle.auction_rows.specs.{Footprint.{is_hot}, Replies.{reply}}
use Rattle.auction_rows.specs.declared.requests.Object.TheVariants.{Item}
use Rattle.auction_rows.specs.declared.{requests.ItemId.ItemId, requests.Facts.Facts, requests.Object.Object, requests.Request.Request, replies.Reply.Reply}
use Rattle.item_shards.specs.{Contents.{Contents}, Standing.{ContentsStandsFor}, Values.{stock_in}}
use Rattle.shard_boxes.specs.Keys.{KeyState, seen_at}
use Rattle.shard_boxes.specs.Lines.{Line, acts_in, after_lines, AreTrueOf}
use Rattle.shard_boxes.specs.States.{ShardState, state_at}
use Rattle.worker_slices.specs.Slicing.{hot_objects, stocks_of, stock_of}
use Rattle.worker_slices.specs.declared.{counters.Counters.{Counters}, slices.Hot.{Hot}}
use Rattle.phase_transactions.specs.{Performing.{asks}, Txns.{Setting, Txn, hot_of, takes, line_on}}
use Rattle.phase_transactions.specs.Workers.{WorkerState}
use Rattle.phase_permits.specs.declared.done.Done.{Done}
use Rattle.phase_permits.specs.declared.done.Done.TheVariants.{Committed, Stashed}

-- the worker's counters are those of a book
pub record CountsOf (book : Book) (worker : ℕ) (counters : Counters) : Type 0 where
  pub items : items_stored book worker ≡ counters.items
  pub bids : bids_stored book worker ≡ counters.bids
  pub comments : comments_stored book worker ≡ counters.comments
  pub buys : buys_stored book worker ≡ counters.buys

-- the hot items have in the book the facts and the number left that are fixed of them
abbrev pub AreStocksIn : List (Object × Option (Facts × ℕ)) → Book → Type 0
AreStocksIn stocks book =
    (item : ItemId) → is_hot (hot_objects stocks) (Item item) ≡ true →
    stock_in book item ≡ stock_of stocks (Item item)

-- so it is with those that the permit holds
abbrev pub HasStocks : Book → List (Object × Hot) → Type 0
HasStocks book hots = AreStocksIn (stocks_of hots) book

-- the looks of the lines that a transaction owes are true of the shards that it took, as it took
-- them
abbrev pub SawTrue : Setting → (ℕ → Contents) → Txn → Type 0
SawTrue z taken txn =
    (shard : ℕ) → takes z shard txn ≡ true
    → AreTrueOf (taken shard) (acts_in (line_on z shard txn).acts)

-- the shards that a transaction took stood for a book, but for the hot objects
abbrev pub StoodFor : Setting → (ℕ → Contents) → Book → Txn → Type 0
StoodFor z taken book txn =
    (shard : ℕ) → takes z shard txn ≡ true →
    ContentsStandsFor shard z.shards (taken shard) book (hot_of z)

-- the hot items have in a book the facts and the number left that are fixed of them
abbrev pub HasFixed : Setting → Book → Type 0
HasFixed z book = AreStocksIn z.stocks book

-- the lines under which a commit took a shard: all that its key has seen there but its own
abbrev pub lines_found : KeyState → ℕ → List (ℕ × Line)
lines_found key shard = let seen = seen_at key shard in take (length seen - 1) seen

-- the shards of a request's footprint stood for a book as its commit took them, but for the hot
-- objects
abbrev pub StoodAsTaken : List ShardState → WorkerState → WorkerState → Request → Book → Type 0
StoodAsTaken initial old new request book =
    (shard : ℕ) → asks (length initial) old request shard ≡ true →
    let taken = after_lines (state_at initial shard) (lines_found new.key shard) in
    ContentsStandsFor shard (length initial) taken.contents book (hot_objects old.slices)

-- The reply to a commit is the model's for every book for which the shards taken stood but for hot
-- objects, in which hot items have what is fixed of them, and which the counters counted.
abbrev pub IsModelReply : List ShardState → WorkerState → WorkerState → Request → Reply → Type 0
IsModelReply initial old new request answer =
    (book : Book) →
    StoodAsTaken initial old new request book →
    HasStocks book old.slices →
    CountsOf book old.journal.worker old.counters →
    answer ≡ reply old.opening book old.journal.worker request

-- so it is with the reply to the first stashed request
abbrev pub IsModelReplyToFirst : List ShardState → WorkerState → WorkerState → Reply → Type 0
IsModelReplyToFirst initial old new answer =
    (index : ℕ) (request : Request) → slice_get old.stash.requests 0 ≡ Some (index, request) →
    IsModelReply initial old new request answer

-- what is so of the reply, if the request was committed
abbrev pub IfCommitted : Done → (Reply → Type 0) → Type 0
IfCommitted (Committed answer) is = is answer
IfCommitted Stashed is = ⊤
