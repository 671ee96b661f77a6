-- Transactions: the commits of a worker in a phase, each with what its transaction found.
use Rattle.std.specs.Option.{option_or}
use Rattle.std.specs.Prelude.{◌≡◌, ℕ, ◌==◌, Bool, false, if◌then◌else◌, List, [], ◌∷◌, map, filter, Option, Some, None, MatchOption, option_map, option_and_then, unwrap_or, ⊤}
use Rattle.phase_laws.specs.Numbers.{greatest_found}
use Rattle.auction_rows.specs.Footprint.{is_hot, footprint, takes_shard}
use Rattle.auction_rows.specs.declared.replies.Reply.TheVariants.{ItemStored, BidStored, CommentStored, Bought, BidsSeen, Refused}
use Rattle.auction_rows.specs.declared.requests.Object.TheVariants.{Item}
use Rattle.auction_rows.specs.declared.requests.Request.TheVariants.{StoreItem, StoreBid, StoreComment, BuyNow, ViewItem, ViewBids, ViewCategory, ViewUser}
use Rattle.auction_rows.specs.declared.{values.Opening.Opening, requests.ItemId.ItemId, requests.Facts.Facts, requests.Object.Object, requests.Request.Request, replies.Refusal.Refusal, replies.Reply.Reply, rows.Entry.Entry}
pub use Rattle.auction_rows.specs.Phases.{is_put_off}
use Rattle.auction_rows.specs.{Refusals.{number_refusal, item_refusal}, Requests.{item_of, is_view}}
use Rattle.item_shards.specs.Writing.{acts_owed}
use Rattle.shard_boxes.specs.Lines.{Line, first_two}
use Rattle.worker_slices.specs.{Counting.{counters_after}, Slicing.{hot_objects, stock_of}}
use Rattle.worker_slices.specs.declared.counters.Counters.{Counters}

-- what a phase is run with: the users and categories, how many shards there are, and of each hot
-- object what is fixed
pub record Setting : Type 0 where
  -- the users and categories
  pub opening : Opening
  -- how many shards there are
  pub shards : ℕ
  -- of each hot object what is fixed
  pub stocks : List (Object × Option (Facts × ℕ))

-- the hot objects: none in a joined phase
abbrev pub hot_of : Setting → List Object
hot_of z = hot_objects z.stocks

-- what a transaction found
pub record ReadSet : Type 0 where
  -- of the item that it needs, if its shard was taken: the facts and how many were left, if it is
  -- stored
  pub stock : Option (Facts × ℕ)
  -- of each shard that was taken: the number and the clock
  pub clocks : List (Option (ℕ × ℕ))

-- a transaction: the entry of its commit, and what it found
abbrev pub Txn : Type 0
Txn = Entry × ReadSet

abbrev pub entry_of : Txn → Entry
entry_of txn = txn.0

abbrev pub found_of : Txn → ReadSet
found_of txn = txn.1

abbrev pub txn_number : Txn → ℕ
txn_number txn = (entry_of txn).number

-- the clock that was found on a shard, 0 where it wasn't taken
abbrev pub clock_in : List (Option (ℕ × ℕ)) → ℕ → ℕ
clock_in [] shard = 0
clock_in (None ∷ clocks) shard = clock_in clocks shard
clock_in (Some found ∷ clocks) shard = if found.0 == shard then found.1 else clock_in clocks shard

-- the clock that a transaction found on a shard
abbrev pub clock_found : ℕ → Txn → ℕ
clock_found shard txn = clock_in (found_of txn).clocks shard

-- the greatest clock that a transaction found on a shard of its footprint
abbrev pub greatest_clock : Setting → Txn → ℕ
greatest_clock z txn =
    greatest_found (λ d. footprint z.opening z.shards (hot_of z) (entry_of d)) clock_found txn

-- whether a transaction took a shard
abbrev pub takes : Setting → ℕ → Txn → Bool
takes z shard txn = takes_shard z.opening z.shards (hot_of z) (entry_of txn) shard

-- the line that a transaction owes on a shard that it took
abbrev pub line_on : Setting → ℕ → Txn → Line
line_on z shard txn = record {
  number = (entry_of txn).number;
  before = clock_found shard txn;
  index = (entry_of txn).index;
  acts = first_two
      (acts_owed z.opening shard z.shards (hot_of z) (found_of txn).stock (entry_of txn));
}

-- the lines that transactions owe on a shard
abbrev pub lines_owed : Setting → ℕ → List Txn → List Line
lines_owed z shard txns = map (line_on z shard) (filter (takes z shard) txns)

-- what a transaction saw of the item that it needs: of a hot one what is fixed, of another one what
-- its shard showed
abbrev pub stock_seen : Setting → Txn → ItemId → Option (Facts × ℕ)
stock_seen z txn item =
    if is_hot (hot_of z) (Item item) then stock_of z.stocks (Item item) else (found_of txn).stock

-- the first reason to refuse a request, by what was seen of the item that it needs
abbrev pub refusal_by : Opening → Option (Facts × ℕ) → Request → Option Refusal
refusal_by opening seen request =
    option_or (number_refusal opening request)
    (item_refusal request (option_map (λ s. s.0) seen) (unwrap_or (option_map (λ s. s.1) seen) 0))

abbrev pub refusal_seen : Setting → Txn → Option Refusal
refusal_seen z txn =
    let request = (entry_of txn).request in
    refusal_by z.opening (option_and_then (stock_seen z txn) (item_of request)) request

-- here the reply to a view of an item is only said to be no list of bids: the shard says the rest
abbrev pub SuitsItem : Reply → Type 0
SuitsItem (BidsSeen bids) = ⊥
SuitsItem reply = ⊤

-- here the reply to a view of bids is only said to be a list of bids or a refusal
abbrev pub SuitsBids : Reply → Type 0
SuitsBids (BidsSeen bids) = ⊤
SuitsBids (Refused reason) = ⊤
SuitsBids reply = ⊥

-- the reply to a request that wasn't refused: to a store its worker's next id of the kind; of the
-- reply to a view of a category or a user nothing is said here
abbrev pub IsReplyTo : Counters → ℕ → Request → Reply → Type 0
IsReplyTo counters worker (StoreItem facts time) reply =
    reply ≡ ItemStored (record { worker = worker; serial = counters.items })
IsReplyTo counters worker (StoreBid bidder item amount time) reply =
    reply ≡ BidStored (record { worker = worker; serial = counters.bids })
IsReplyTo counters worker (StoreComment author about item stars) reply =
    reply ≡ CommentStored (record { worker = worker; serial = counters.comments })
IsReplyTo counters worker (BuyNow buyer item quantity time) reply =
    reply ≡ Bought (record { worker = worker; serial = counters.buys })
IsReplyTo counters worker (ViewItem item) reply = SuitsItem reply
IsReplyTo counters worker (ViewBids item) reply = SuitsBids reply
IsReplyTo counters worker (ViewCategory category) reply = ⊤
IsReplyTo counters worker (ViewUser user) reply = ⊤

-- the first reason that a worker itself gives: views of items are refused by their shards
abbrev pub reason_seen : Setting → Txn → Option Refusal
reason_seen z txn =
    let request = (entry_of txn).request in
    if is_view request then number_refusal z.opening request else refusal_seen z txn

-- an entry's reply is the answer to its request
abbrev pub HasDueReply : Counters → Entry → Type 0
HasDueReply counters entry = IsReplyTo counters entry.worker entry.request entry.reply

-- an entry's reply is this refusal
abbrev pub IsRefusal : Entry → Refusal → Type 0
IsRefusal entry reason = entry.reply ≡ Refused reason

-- A transaction's reply is the answer by what it saw and by its worker's counters, and it was not
-- to be put off.
pub record IsAnswered (z : Setting) (counters : Counters) (txn : Txn) : Type 0 where
  -- the reply is the refusal by what was seen, or else the answer
  pub answered : MatchOption (reason_seen z txn)
      (HasDueReply counters (entry_of txn)) (IsRefusal (entry_of txn))
  -- the request was not to wait
  pub not_put_off : is_put_off (hot_of z) (entry_of txn).request ≡ false

abbrev pub after_txn : Counters → Txn → Counters
after_txn counters txn = counters_after counters (entry_of txn).reply
