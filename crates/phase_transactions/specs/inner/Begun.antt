-- A transaction that has taken its shards, and what its request is answered by.
use Rattle.std.specs.Prelude.{◌≡◌, ℕ, suc, max, ◌<◌, ◌≤◌, false, List, ◌∷◌, [], Option, None, Some, length, ⊤}
use Rattle.auction_rows.specs.{Refusals.{number_refusal}, Requests.{item_of}}
use Rattle.auction_rows.specs.declared.requests.Object.TheVariants.{Item, User, Category}
use Rattle.auction_rows.specs.declared.requests.Request.TheVariants.{ViewItem, ViewBids, ViewCategory, ViewUser}
use Rattle.auction_rows.specs.declared.{requests.ItemId.ItemId, requests.Facts.Facts, requests.Object.Object, requests.Request.Request, replies.Refusal.Refusal, replies.Reply.Reply}
use Rattle.item_shards.specs.{Answering.{refusal_with}, CommitNumbers.{last_number}, Values.{stock}}
use Rattle.item_shards.specs.declared.shard.{Shard.{Shard}, acts.Look.{Look}}
use Rattle.item_shards.specs.declared.shard.acts.Look.TheVariants as look
use Rattle.item_shards.specs.ShardContents.{HasItemRoom, LiesIn, clock, contents, opening as opening_of}
use Rattle.shard_boxes.specs.{Helds.{HeldState}, Keys.{BoxId, KeyState}}
use Rattle.shard_boxes.specs.States.{ShardState, state_of}
use Rattle.phase_transactions.specs.Performing.{HasCommitted, HasCommittedSome, HaveOpening, StoresItem, asks}
use Rattle.phase_transactions.specs.Txns.{is_put_off}
use Rattle.phase_transactions.specs.{Workers.{WorkerState, next_item}, declared.deeds.Deeds.{Deeds}}
use Rattle.phase_transactions.specs.declared.taken.{Begun.{Begun}, BegunOne.{BegunOne}, Taken.{Taken}}
use Rattle.phase_transactions.specs.inner.Deeds.{IsReplyBy, IsNextIf, AreDeedsOf, AreGoodOn, acts_for, event_with, footprint_on, stock_on}
use Rattle.phase_transactions.specs.inner.{HeldShards.{IsAsTaken}, Homes.{AreHomesOf}}
use Rattle.phase_transactions.specs.inner.Takens.{footprint_of, greatest_held, held_in, is_one_of, HasTakenAll, AreHeldAll}
use Rattle.phase_transactions.specs.declared.taken.Taken.TheVariants as taken
use Rattle.worker_slices.specs.{Counting.{IsOwn}, Homes.{shard_at}}
use Rattle.worker_slices.specs.Slicing.{hot_objects, stocks_of, stock_of}
use Rattle.worker_slices.specs.declared.homes.Homes.{Homes}

-- What a transaction goes by: its phase, its worker's key, and where its objects are.
pub record Step : Type 0 where
  -- the shards as the phase began, how many workers there are, and the boxes
  pub initial : List ShardState
  pub workers : ℕ
  pub boxes : List BoxId
  -- the worker's key before it took a shard
  pub key : KeyState
  -- where the objects of its request are
  pub homes : Homes

abbrev pub step_of : List ShardState → ℕ → List BoxId → KeyState → Homes → Step
step_of initial workers boxes key homes =
    record { initial = initial; workers = workers; boxes = boxes; key = key; homes = homes }

-- A request may begin, in a phase with so many shards, over these homes.
pub record MayBegin (shards : ℕ) (w : WorkerState) (request : Request)
    (homes : Homes) : Type 0 where
  -- the request is one that the opening does not refuse, and not put off
  pub allowed : number_refusal w.opening request ≡ None
  pub goes : is_put_off (hot_objects w.slices) request ≡ false
  -- its objects have these homes, and the shards among them are its footprint
  pub homes_are : AreHomesOf w shards request homes
  pub asked : (t : ℕ) → asks shards w request t ≡ is_one_of (footprint_of homes) t

-- A request may begin over these homes, of which this shard is the only one.
pub record MayBeginOn (shards : ℕ) (w : WorkerState) (request : Request) (homes : Homes)
    (shard : ℕ) : Type 0 where
  pub may : MayBegin shards w request homes
  pub only : footprint_of homes ≡ shard ∷ []

-- A worker has taken the shards of a request's footprint, and there is a number after its clock and
-- theirs.
pub record HasBegun {N : Type 0} (step : Step) (w : WorkerState) (request : Request)
    (begun : Begun N) : Type 0 where
  -- the request may begin over these homes
  pub may : MayBegin (length step.initial) w request step.homes
  -- the shards were taken, and can go back
  pub taken : HasTakenAll step.initial step.workers step.key w.key
      (footprint_of step.homes) (held_in begun.taken)
  pub held : AreHeldAll step.initial step.workers step.boxes w.key (held_in begun.taken)
  -- the number is 1 + the greatest clock
  pub numbered : begun.number ≡ suc (max w.clock (greatest_held (held_in begun.taken)))
  pub within : begun.number ≤ last_number

-- a transaction on one shard
abbrev pub begun_of : {N : Type 0} → BegunOne N → Begun N
begun_of one = record { taken = taken.One one.held; number = one.number }

-- a worker with this key has begun a request, wherever the request's objects are
abbrev pub HasBegunSome : {N : Type 0} → List ShardState → ℕ → List BoxId → KeyState →
    WorkerState → Request → Begun N → Type 0
HasBegunSome initial workers boxes key w request begun =
    (homes : Homes) × HasBegun (step_of initial workers boxes key homes) w request begun

-- a request that a worker has begun over these homes is committed with this reply, whatever key it
-- was begun with
abbrev pub HasCommittedBegun : {N : Type 0} → List ShardState → ℕ → List BoxId → Homes →
    WorkerState → WorkerState → Request → ℕ → Reply → Begun N → Type 0
HasCommittedBegun initial workers boxes homes old new request index reply begun =
    (key : KeyState) → HasBegun (step_of initial workers boxes key homes) old request begun →
    HasCommitted initial (record old { key = key }) new request index reply

-- so is one with some reply, wherever its objects are
abbrev pub HasCommittedBegunSome : {N : Type 0} → List ShardState → ℕ → List BoxId →
    WorkerState → WorkerState → Request → ℕ → Begun N → Type 0
HasCommittedBegunSome initial workers boxes old new request index begun =
    (key : KeyState) → HasBegunSome initial workers boxes key old request begun →
    HasCommittedSome initial (record old { key = key }) new request index

-- what a store saw of the item that it needs: of a hot one what is fixed, of another one what the
-- first shard has
pub record IsSeen {N : Type 0} (w : WorkerState) (request : Request) (homes : Homes)
    (took : Taken N) (seen : Option (Facts × ℕ)) : Type 0 where
  pub fixed : (item : ItemId) → item_of request ≡ Some item → shard_at homes.item ≡ None →
      seen ≡ stock_of (stocks_of w.slices) (Item item)
  pub found : (item : ItemId) (t : ℕ) → item_of request ≡ Some item → shard_at homes.item ≡ Some t →
      seen ≡ stock_on took item

-- The first reason for which its item refuses a store, by what the store saw of it.
pub record IsRefusedBy {N : Type 0} (w : WorkerState) (request : Request) (homes : Homes)
    (took : Taken N) (refused : Option Refusal) : Type 0 where
  -- what it saw of the item that it needs
  pub seen : Option (Facts × ℕ)
  pub saw : IsSeen w request homes took seen
  -- the item's first reason, if it has any, by what was seen
  pub by : refused ≡ refusal_with seen request

-- A store has this reply, by what it saw of its item.
pub record IsAnsweredBy {N : Type 0} (w : WorkerState) (request : Request) (homes : Homes)
    (took : Taken N) (reply : Reply) : Type 0 where
  -- what it saw of the item that it needs
  pub seen : Option (Facts × ℕ)
  pub saw : IsSeen w request homes took seen
  -- the reply follows from what was seen
  pub answered : IsReplyBy w seen request reply

-- the shards that were taken, but for the rooms that they have
abbrev pub states_in : {N : Type 0} → Taken N → List (ℕ × ShardState)
states_in taken.Nothing = []
states_in (taken.One one) = (one.number, state_of one.shard) ∷ []
states_in (taken.Two item other) =
    (item.number, state_of item.shard) ∷ (other.number, state_of other.shard) ∷ []

-- an item lies in the first shard that was taken
abbrev pub FirstHas : {N : Type 0} → Taken N → ItemId → Type 0
FirstHas taken.Nothing item = ⊤
FirstHas (taken.One one) item = LiesIn one.shard (Item item)
FirstHas (taken.Two one other) item = LiesIn one.shard (Item item)

-- the first shard that was taken has room for an item
abbrev pub FirstHasRoom : {N : Type 0} → Taken N → ItemId → Type 0
FirstHasRoom taken.Nothing item = ⊤
FirstHasRoom (taken.One one) item = HasItemRoom one.shard item
FirstHasRoom (taken.Two one other) item = HasItemRoom one.shard item

-- the item that a store adds lies in the first shard that was taken
abbrev pub HasFirst : {N : Type 0} → WorkerState → Request → Taken N → Type 0
HasFirst w request took = StoresItem request → FirstHas took (next_item w)

-- the first shard that was taken has room for the item that a store adds
abbrev pub HasRoomFor : {N : Type 0} → WorkerState → Request → Taken N → Type 0
HasRoomFor w request took = StoresItem request → FirstHasRoom took (next_item w)

-- What is known of a store whose reply is this one, on a shard that it took.
pub record IsAnsweredOn (step : Step) (w : WorkerState) (request : Request)
    (seen : Option (Facts × ℕ)) (reply : Reply) (held : HeldState) : Type 0 where
  -- the shard is as it was taken, of an auction with the worker's users and categories, and its
  -- clock is not at the end of numbers
  pub taken : IsAsTaken step.initial step.workers w.key held
  pub opened : HaveOpening step.initial w.opening
  pub below : clock held.shard < last_number
  -- the request's objects have these homes, and the opening does not refuse it
  pub homes_are : AreHomesOf w (length step.initial) request step.homes
  pub allowed : number_refusal w.opening request ≡ None
  -- the reply is by what was seen, and an item that it stores is the worker's next
  pub answered : IsReplyBy w seen request reply
  pub next : IsNextIf w reply
  -- what was seen is what the shard has of the item, if that lies there
  pub found : (item : ItemId) → item_of request ≡ Some item →
      shard_at step.homes.item ≡ Some held.number → seen ≡ stock (contents held.shard (Item item))
  -- the shard has room for a new item, if that lies there
  pub room : StoresItem request →
      shard_at step.homes.item ≡ Some held.number → HasItemRoom held.shard (next_item w)

-- on each shard two acts are what a store with this reply owes there, which saw this of its item
abbrev pub AreOwedBy : Request → Reply → Option (Facts × ℕ) → Homes → Deeds → Type 0
AreOwedBy request reply seen homes deeds =
    (w : WorkerState) (shards : ℕ) → AreHomesOf w shards request homes →
    IsOwn w.journal.worker reply → IsNextIf w reply →
    let event = event_with seen reply in
    AreDeedsOf w.slices shards (acts_for w.journal.worker seen request reply)
    (event deeds.first) (event deeds.second) deeds.home deeds.other

-- two acts can be done on each shard that was taken for a store with this reply
abbrev pub AreGoodFor : Request → Reply → Option (Facts × ℕ) → Homes → Deeds → Type 0
AreGoodFor request reply seen homes deeds =
    (initial : List ShardState) (workers : ℕ) (boxes : List BoxId) (key : KeyState)
    (w : WorkerState) (held : HeldState) →
    IsAnsweredOn (step_of initial workers boxes key homes) w request seen reply held →
    let event = event_with seen reply in
    AreGoodOn (shard_at deeds.home) (shard_at deeds.other) (event deeds.first) (event deeds.second)
    held

-- the homes of two acts are the footprint of a request whose objects have these homes
abbrev pub HaveFootprint : Request → Homes → Deeds → Type 0
HaveFootprint request homes deeds =
    (w : WorkerState) (shards : ℕ) → AreHomesOf w shards request homes →
    footprint_on deeds ≡ footprint_of homes

-- the object that a view shows
abbrev pub viewed : Request → Option Object
viewed (ViewItem item) = Some (Item item)
viewed (ViewBids item) = Some (Item item)
viewed (ViewCategory category) = Some (Category category)
viewed (ViewUser user) = Some (User user)
viewed request = None

-- what a view looks at
abbrev pub look_for : Request → Look
look_for (ViewItem item) = look.Item item
look_for (ViewBids item) = look.Bids item
look_for (ViewCategory category) = look.Category category
look_for (ViewUser user) = look.User user
look_for request = look.Nothing

-- a shard can show what a view asks for, which lies there
pub record CanView (shard : Shard) (request : Request) : Type 0 where
  pub here : (object : Object) → viewed request ≡ Some object → LiesIn shard object
  pub allowed : number_refusal (opening_of shard) request ≡ None
