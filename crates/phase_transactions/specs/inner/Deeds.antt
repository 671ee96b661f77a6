-- What a request does, once its homes are known.
use Rattle.std.specs.Prelude.{◌≡◌, ◌==◌, ℕ, Bool, false, if◌then◌else◌, List, [], ◌∷◌, ◌++◌, Option, Some, None, MatchOption, option_map, ⊤}
use Rattle.auction_rows.specs.Replies.{row_of}
use Rattle.auction_rows.specs.declared.replies.Reply.TheVariants.{ItemStored, Refused}
use Rattle.auction_rows.specs.declared.requests.Object.TheVariants.{Item}
use Rattle.auction_rows.specs.declared.{requests.ItemId.ItemId, requests.Facts.Facts, requests.Object.Object, requests.Request.Request, replies.Refusal.Refusal, replies.Reply.Reply}
use Rattle.shard_boxes.specs.Helds.{HeldState}
use Rattle.phase_transactions.specs.Txns.{IsReplyTo, refusal_by, ReadSet}
use Rattle.phase_transactions.specs.{Workers.{WorkerState, next_item}, declared.deeds.Deeds.{Deeds}}
use Rattle.phase_transactions.specs.declared.taken.Taken.{Taken}
use Rattle.phase_transactions.specs.inner.Takens.{each_once}
use Rattle.phase_transactions.specs.declared.taken.Taken.TheVariants as taken
use Rattle.worker_slices.specs.{Homes.{shard_at}, Slicing.{hot_objects}, declared.homes.Home.{Home}}
use Rattle.worker_slices.specs.declared.slices.Hot.{Hot}
use Rattle.worker_slices.specs.declared.homes.Home.TheVariants as home
use Rattle.item_shards.specs.{Acting.{CanActOn}, Answering.{stock_needed}}
use Rattle.item_shards.specs.{Contents.{Contents, after_act}, Events.{Event}, Looking.{IsTrueAct}}
use Rattle.item_shards.specs.{Shown.{Shown}, Values.{stock, stock_facts}}
use Rattle.item_shards.specs.Writing.{padded, done_on, looks_of, writes_if}
use Rattle.item_shards.specs.declared.shard.{Shard.{Shard}, acts.Act.{Act}}
use Rattle.item_shards.specs.declared.shard.acts.Act.TheVariants.{AddItem, ListItem, Bid, Comment, Buy, Look}
use Rattle.item_shards.specs.declared.shard.acts.Look.{Look as LookedAt}
use Rattle.item_shards.specs.declared.shard.acts.Look.TheVariants as look
use Rattle.item_shards.specs.Events as event
use Rattle.item_shards.specs.Shown as shown
use Rattle.item_shards.specs.ShardContents.{contents, clock, opening as opening_of, rooms, shard_count, shard_number}

-- whether the home of an object is the shard of this number
abbrev pub is_at : Home → ℕ → Bool
is_at home.Nowhere t = false
is_at (home.Slice place) t = false
is_at (home.Shard shard) t = shard == t

-- what a look of a request showed, by what the request saw of its item and its reply
abbrev pub shown_with : Option (Facts × ℕ) → Reply → LookedAt → Shown
shown_with seen reply look.Nothing = shown.Nothing
shown_with seen reply (look.Facts id) = shown.Facts id (option_map stock_facts seen)
shown_with seen reply (look.Left id) = shown.Left id seen
shown_with seen reply (look.Item id) = shown.Item id reply
shown_with seen reply (look.Bids id) = shown.Bids id reply
shown_with seen reply (look.Category category) = shown.Category category reply
shown_with seen reply (look.User user) = shown.User user reply

-- an act of a request as it was done, by what the request saw of its item and its reply
abbrev pub event_with : Option (Facts × ℕ) → Reply → Act → Event
event_with seen reply (AddItem id facts) = event.AddItem id facts
event_with seen reply (ListItem category entry) = event.ListItem category entry
event_with seen reply (Bid id entry) = event.Bid id entry
event_with seen reply (Comment user stars) = event.Comment user stars
event_with seen reply (Buy id quantity) = event.Buy id quantity
event_with seen reply (Look looked_at) = event.Look (shown_with seen reply looked_at)

-- of two acts, whose objects have these homes, those on a shard
abbrev pub deeds_on : Event → Event → Home → Home → ℕ → List Event
deeds_on x y h k t =
    let more = if is_at k t then y ∷ [] else [] in
    padded (if is_at h t then x ∷ more else more)

-- what the shards that were taken have of an item: the first one has it
abbrev pub stock_on : {N : Type 0} → Taken N → ItemId → Option (Facts × ℕ)
stock_on taken.Nothing item = None
stock_on (taken.One one) item = stock (contents one.shard (Item item))
stock_on (taken.Two one other) item = stock (contents one.shard (Item item))

-- what the shards that were taken have of the item that a request needs
abbrev pub stock_taken : {N : Type 0} → Taken N → Request → Option (Facts × ℕ)
stock_taken taken.Nothing request = None
stock_taken (taken.One one) request = stock_needed (contents one.shard) request
stock_taken (taken.Two one other) request = stock_needed (contents one.shard) request

-- the reply to a store: the reason to refuse it, or else the worker's next id of the kind
abbrev pub IsReplyUnless : WorkerState → Option Refusal → Request → Reply → Type 0
IsReplyUnless w refused request reply =
    MatchOption refused
    (IsReplyTo w.counters w.journal.worker request reply) (λ reason. reply ≡ Refused reason)

-- the reply to a store, by what was seen of its item
abbrev pub IsReplyBy : WorkerState → Option (Facts × ℕ) → Request → Reply → Type 0
IsReplyBy w seen request reply = IsReplyUnless w (refusal_by w.opening seen request) request reply

-- of two acts, whose objects lie in these shards or in none, the one that is done first
abbrev pub first_dealt : Act → Act → Option ℕ → Option ℕ → Act
first_dealt x y (Some a) b = x
first_dealt x y None (Some b) = y
first_dealt x y None None = Look look.Nothing

-- of two acts, whose objects lie in these shards or in none, the one that is done second
abbrev pub second_dealt : Act → Act → Option ℕ → Option ℕ → Act
second_dealt x y (Some a) (Some b) = y
second_dealt x y (Some a) None = Look look.Nothing
second_dealt x y None b = Look look.Nothing

-- two acts as they are dealt
abbrev pub acts_dealt : Deeds → Act × Act
acts_dealt deeds =
    let a = shard_at deeds.home in
    let b = shard_at deeds.other in
    (first_dealt deeds.first deeds.second a b, second_dealt deeds.first deeds.second a b)

-- the clocks that were found on the shards that were taken
abbrev pub clocks_of : {N : Type 0} → Taken N → List (Option (ℕ × ℕ))
clocks_of taken.Nothing = None ∷ None ∷ []
clocks_of (taken.One one) = Some (one.number, clock one.shard) ∷ None ∷ []
clocks_of (taken.Two one other) =
    Some (one.number, clock one.shard) ∷ Some (other.number, clock other.shard) ∷ []

-- what a transaction found that saw this of its item, on the shards that it took
abbrev pub found_on : {N : Type 0} → Option (Facts × ℕ) → Taken N → ReadSet
found_on seen took = record { stock = seen; clocks = clocks_of took }

-- what a worker's request does, whatever the homes of its objects: its look, and what writes its
-- row
abbrev pub acts_for : ℕ → Option (Facts × ℕ) → Request → Reply → List Event
acts_for worker seen request reply =
    looks_of seen reply request ++ writes_if (row_of worker request reply)

-- the acts of a request on each shard are those of its deeds there
abbrev pub AreDeedsOf : List (Object × Hot) → ℕ → List Event → Event → Event → Home → Home →
    Type 0
AreDeedsOf hots shards acts x y h k =
    (t : ℕ) → padded (done_on t shards (hot_objects hots) acts) ≡ deeds_on x y h k t

-- the shards among the homes of two acts
abbrev pub footprint_on : Deeds → List ℕ
footprint_on deeds = each_once (shard_at deeds.home) (shard_at deeds.other)

-- an item that is stored is the worker's next
abbrev pub IsNextIf : WorkerState → Reply → Type 0
IsNextIf w (ItemStored id) = id ≡ next_item w
IsNextIf w reply = ⊤

-- an act can be done on a shard that has come to these contents, and is no false look
abbrev pub IsGood : Shard → Contents → Event → Type 0
IsGood shard now act =
    CanActOn (opening_of shard) (shard_number shard) (shard_count shard) (rooms shard) now act
    × IsTrueAct now act

-- two acts, whose objects lie in these shards or in none, are good on the shard that is held, where
-- it is theirs
pub record AreGoodOn (a b : Option ℕ) (x y : Event) (held : HeldState) : Type 0 where
  pub first : a ≡ Some held.number → IsGood held.shard (contents held.shard) x
  pub second : b ≡ Some held.number → IsGood held.shard (contents held.shard) y
  -- where both are, the second one is good after the first one
  pub after : a ≡ Some held.number → b ≡ Some held.number →
      IsGood held.shard (after_act (contents held.shard) x) y
