-- A worker in a phase.
use Rattle.std.specs.Prelude.{◌≡◌, ℕ, suc, ◌+◌, ◌-◌, ◌<◌, ◌≤◌, true, false, List, [], ◌∷◌, ◌++◌, Option, None, length, option_map, slice_get, ⊤}
use Rattle.phase_laws.specs.Numbers.{last_by}
use Rattle.auction_rows.specs.{Footprint.{is_hot}, Replies.{row_of}}
use Rattle.auction_rows.specs.declared.requests.Object.TheVariants.{Item}
use Rattle.auction_rows.specs.declared.{values.Opening.Opening, requests.ItemId.ItemId, requests.BidId.BidId, requests.Object.Object, requests.Request.Request, replies.Reply.Reply, rows.Entry.Entry}
use Rattle.item_shards.specs.Writing.{writes_if}
use Rattle.shard_boxes.specs.Keys.{KeyState, lines_at, holds_at}
use Rattle.shard_boxes.specs.declared.limits.TheConstants.{MOST_COMMITS}
use Rattle.worker_journals.specs.Journals.{JournalView, entry_number, commit_in, with_commit}
use Rattle.worker_slices.specs.Counting.{AreCounted, counters_after}
use Rattle.worker_slices.specs.Slicing.{hot_objects, slices_of, stocks_of, slices_after_acts, HaveAtMost}
use Rattle.worker_slices.specs.Stashes.{StashState, without_first}
use Rattle.worker_slices.specs.declared.{counters.Counters.{Counters}, slices.Hot.{Hot}}
use Rattle.phase_transactions.specs.{Txns.{Setting, Txn, ReadSet}, Works.{Work, IsWorkOf}}

-- a worker in a phase: its right to take shards, and what no other worker touches
pub record WorkerState : Type 0 where
  -- its right to take shards
  pub key : KeyState
  -- the users and categories
  pub opening : Opening
  -- the counters and the clock with which it began
  pub begun : Counters × ℕ
  -- what it has stored of each kind, and committed
  pub counters : Counters
  -- what it has committed in this phase
  pub journal : JournalView
  -- what waits
  pub stash : StashState
  -- of what is hot: none in a joined phase
  pub slices : List (Object × Hot)
  -- how many requests of its quota are left
  pub left : ℕ
  -- how often it tried
  pub tries : ℕ
  -- the number of its last commit, or the clock with which it began
  pub clock : ℕ

-- the phase with so many shards
abbrev pub setting_of : WorkerState → ℕ → Setting
setting_of w shards = record { opening = w.opening; shards = shards; stocks = stocks_of w.slices }

-- the id of a worker's next item
abbrev pub next_item : WorkerState → ItemId
next_item w = record { worker = w.journal.worker; serial = w.counters.items }

-- the id of a worker's next bid
abbrev pub next_bid : WorkerState → BidId
next_bid w = record { worker = w.journal.worker; serial = w.counters.bids }

-- a worker's next entry
abbrev pub next_entry : WorkerState → ℕ → ℕ → Request → Reply → Entry
next_entry w number index request reply = commit_in w.journal number index request reply

-- the transaction of a commit at this number that found this
abbrev pub txn_of : WorkerState → ℕ → Request → ℕ → Reply → ReadSet → Txn
txn_of w number request index reply found = (next_entry w number index request reply, found)

-- what is found where no shard is taken
abbrev pub nothing : ReadSet
nothing = record { stock = None; clocks = None ∷ None ∷ [] }

-- the transaction of a commit that takes no shard: its number follows its worker's last
abbrev pub hot_txn : WorkerState → Request → ℕ → Reply → Txn
hot_txn w request index reply = txn_of w (suc w.clock) request index reply nothing

-- the reply of the last of some entries
abbrev pub last_reply : List Entry → Option Reply
last_reply entries = option_map (λ entry. entry.reply) (slice_get entries (length entries - 1))

-- there is room for what is left and what waits, in the journal and in the counters, and the clock
-- has not gone back
pub record HasCommitRoom (w : WorkerState) : Type 0 where
  pub counted : AreCounted w.counters
  pub limit : w.counters.commits + length w.stash.requests + w.left ≤ MOST_COMMITS
  pub room : length w.journal.entries + length w.stash.requests + w.left ≤ w.journal.room
  pub latest : last_by entry_number 0 w.journal.entries ≤ w.clock

-- there is room in the stash for what is left of the quota, where something is hot: elsewhere
-- nothing is put off
abbrev pub HasStashRoom : List (Object × Hot) → ℕ → ℕ → Type 0
HasStashRoom [] left room = ⊤
HasStashRoom (hot ∷ more) left room = left ≤ room

-- no hot item is one that the worker has still to store: of its own the serials are less than its
-- count of items
abbrev pub AreStored : ℕ → Counters → List (Object × Hot) → Type 0
AreStored worker counters hots =
    (item : ItemId) → is_hot (hot_objects hots) (Item item) ≡ true → item.worker ≡ worker →
    item.serial < counters.items

-- What is true of every worker, also while it holds shards.
pub record IsLawfulWorker (w : WorkerState) : Type 0 where
  pub room : HasCommitRoom w
  -- no slice has more operations than the worker has commits
  pub few : HaveAtMost w.counters.commits w.slices
  pub stash_room : HasStashRoom w.slices w.left w.stash.room
  -- no hot item is one that it has still to store
  pub stored : AreStored w.journal.worker w.counters w.slices

-- the worker after a commit of the quota, but for its slices: its key is as the puts left it
abbrev pub with_entry : WorkerState → ℕ → ℕ → Request → Reply → WorkerState
with_entry w number index request reply = record w {
  counters = counters_after w.counters reply;
  journal = with_commit w.journal number index request reply;
  left = w.left - 1;
  clock = number;
}

-- the worker after a commit of the quota: its key is as the puts left it
abbrev pub after_commit : WorkerState → ℕ → ℕ → Request → Reply → WorkerState
after_commit w number index request reply =
    record (with_entry w number index request reply) {
      slices = slices_after_acts w.slices (writes_if (row_of w.journal.worker request reply));
    }

-- the worker after a request of the quota was put off
abbrev pub after_putting_off : WorkerState → ℕ → Request → WorkerState
after_putting_off w index request = record w {
  stash = record w.stash {
    requests = w.stash.requests ++ (index, request) ∷ [];
    room = w.stash.room - 1;
  };
  left = w.left - 1;
}

-- the worker after the first request of the stash was taken out of the stash
abbrev pub with_first_unstashed : WorkerState → WorkerState
with_first_unstashed w = record w { stash = without_first w.stash; left = w.left + 1 }

-- the worker after one try more
abbrev pub with_try : WorkerState → WorkerState
with_try w = record w { tries = w.tries + 1 }

-- the key holds no shard
abbrev pub IsIdle : KeyState → Type 0
IsIdle key = (shard : ℕ) → holds_at key shard ≡ false

-- what the worker has done
abbrev pub work_of : WorkerState → Work
work_of w = record {
  opened = w.begun.0;
  start = w.begun.1;
  entries = w.journal.entries;
  lines = λ shard. lines_at w.key shard;
  clock = w.clock;
  counters = w.counters;
  slices = w.slices;
}

-- A worker between two requests, in a phase with so many shards: its journal is its key's worker's,
-- the key holds no shard, and all that it has done is explained by one list of transactions.
pub record IsExplained (shards : ℕ) (w : WorkerState) : Type 0 where
  pub worker : w.journal.worker ≡ w.key.worker
  pub idle : IsIdle w.key
  pub work : IsWorkOf (setting_of w shards) w.key.worker (work_of w)

-- a worker as a phase begins
abbrev pub new_worker : KeyState → Opening → Counters → JournalView → StashState →
    List (Object × Hot) → ℕ → ℕ → WorkerState
new_worker key opening counters journal stash slices quota clock = record {
  key = key;
  opening = opening;
  begun = (counters, clock);
  counters = counters;
  journal = journal;
  stash = stash;
  slices = slices;
  left = quota;
  tries = 0;
  clock = clock;
}

-- the key holds no shard, and no line was put by it
abbrev pub IsUnused : KeyState → Type 0
IsUnused key = (shard : ℕ) → (holds_at key shard ≡ false) × (lines_at key shard ≡ [])

-- counters that have counted nothing
abbrev pub no_counters : Counters
no_counters = record { items = 0; bids = 0; comments = 0; buys = 0; commits = 0 }

-- With this a worker can start a phase.
pub record CanStart (w : WorkerState) : Type 0 where
  -- its key holds no shard, and put no line
  pub key : IsUnused w.key
  -- the journal is the key's worker's, and empty
  pub worker : w.journal.worker ≡ w.key.worker
  pub empty : w.journal.entries ≡ []
  -- nothing is applied to the slices
  pub identities : w.slices ≡ slices_of (stocks_of w.slices) []
  -- the journal has room for what waits and for the quota
  pub room : length w.stash.requests + w.left ≤ w.journal.room
  -- the stash has room for the quota, where something is hot
  pub stash_room : HasStashRoom w.slices w.left w.stash.room
  -- the counters have room for both, and count no more stores of a kind than commits
  pub limit : w.counters.commits + length w.stash.requests + w.left ≤ MOST_COMMITS
  pub counted : AreCounted w.counters
  -- no hot item is one that it has still to store
  pub stored : AreStored w.journal.worker w.counters w.slices
