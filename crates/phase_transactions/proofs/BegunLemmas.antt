-- A transaction that has begun: what it does on its shards can be done there, and when it is done that is a commit.
use Rattle.std.proofs.Common.{◌≡◌, ℕ, suc, max, ◌<◌, Bool, true, false, cond, List, [], ◌∷◌, length, Option, Some, None, Result, Ok, Err, MatchOption, refl, sym, ap, subst, ◌∙◌, arith}
use Rattle.std.{proofs.lemmas.Bool.{true≢false}, specs.{List.{AllByRecursion}, Option.{option_or}}}
use Rattle.std.specs.Prelude.{IsErrAnd}
use Rattle.phase_laws.specs.Numbers.{greatest_by}
use Rattle.auction_rows.specs.{Refusals.{number_refusal}, Requests.{item_of, is_view}}
use Rattle.auction_rows.specs.declared.replies.Reply.TheVariants.{ItemStored, Refused}
use Rattle.auction_rows.specs.declared.requests.Object.TheVariants.{Item}
use Rattle.auction_rows.specs.declared.requests.Request.TheVariants.{StoreItem, StoreBid, StoreComment, BuyNow, ViewItem, ViewBids, ViewCategory, ViewUser}
use Rattle.auction_rows.specs.declared.{requests.ItemId.ItemId, requests.Facts.Facts, requests.Object.Object, requests.Request.Request, replies.Refusal.Refusal, replies.Reply.Reply}
use Rattle.auction_rows.specs.Footprint.{is_hot, objects_of as objects_named}
use Rattle.item_shards.specs.{ShardContents.{HasItemRoom, clock, contents}, Values.{stock}}
use Rattle.shard_boxes.specs.{Helds.{HeldState}, Keys.{KeyState}, States.{ShardState}}
use Rattle.phase_transactions.proofs.AnswerLemmas.{in_setting, item_home, store_answered}
use Rattle.phase_transactions.proofs.ChainLemmas.{store_commits, store_fails}
use Rattle.phase_transactions.proofs.FirstLemmas.{first_has, found_there, room_there, clocks_below}
use Rattle.phase_transactions.proofs.WrittenLemmas.{can_deal}
use Rattle.phase_transactions.specs.Performing.{HasCommitted, HasFailed, HasPerformed, HaveOpening, StoresItem}
use Rattle.phase_transactions.specs.Putting.{HasPutAll}
use Rattle.phase_transactions.specs.Txns.{IsReplyTo, IsAnswered, refusal_by, ReadSet}
use Rattle.phase_transactions.specs.Workers.{WorkerState, IsLawfulWorker, setting_of, next_item, txn_of, after_commit}
use Rattle.phase_transactions.specs.declared.{deeds.Deeds.{Deeds}, fault.PermitFault.{PermitFault}}
use Rattle.phase_transactions.specs.declared.fault.PermitFault.TheVariants.{Memory}
use Rattle.phase_transactions.specs.declared.taken.Begun.{Begun}
use Rattle.phase_transactions.specs.inner.Begun.{Step, FirstHas, HasBegun, HasFirst, HasRoomFor, IsAnsweredOn, IsSeen, MayBegin}
use Rattle.phase_transactions.specs.inner.Deeds.{IsReplyBy, IsNextIf, AreDeedsOf, AreGoodOn, acts_for, event_with, found_on, acts_dealt, footprint_on}
use Rattle.phase_transactions.specs.inner.{HeldShards.{two_acts, IsAsTaken}, Homes.{AreHomesOf}}
use Rattle.phase_transactions.specs.inner.Takens.{footprint_of, held_in, numbers_of, is_one_of, dealt, line_among, CanBeDoneOnAll, AreBack}
use Rattle.worker_slices.specs.Homes.{IsHomeOf, shard_at}
use Rattle.worker_slices.specs.Slicing.{hot_objects, stocks_of, stock_of}
use Rattle.worker_slices.specs.declared.{homes.{Home.{Home}, Homes.{Homes}}, slices.Hot.{Hot}}
use Rattle.worker_slices.specs.declared.homes.Home.TheVariants as home

-- whatever shards the key has taken
homes_still : (w : WorkerState) (key : KeyState) (shards : ℕ) (request : Request) (homes : Homes) → AreHomesOf w shards request homes → AreHomesOf (record w { key = key }) shards request homes
homes_still w key shards (StoreItem facts time) homes are = are
homes_still w key shards (StoreBid bidder item amount time) homes are = are
homes_still w key shards (StoreComment author about item stars) homes are = are
homes_still w key shards (BuyNow buyer item quantity time) homes are = are
homes_still w key shards (ViewItem item) homes are = are
homes_still w key shards (ViewBids item) homes are = are
homes_still w key shards (ViewCategory category) homes are = are
homes_still w key shards (ViewUser user) homes are = are

pub may_still : (w : WorkerState) (key : KeyState) (shards : ℕ) (request : Request) (homes : Homes) → MayBegin shards w request homes → MayBegin shards (record w { key = key }) request homes
may_still w key shards request homes may = record {
  allowed = may.allowed;
  goes = may.goes;
  homes_are = homes_still w key shards request homes may.homes_are;
  asked = may.asked;
}

-- a fault is what became of a request
pub fault_performed : (initial : List ShardState) (old new : WorkerState) (request : Request) (index : ℕ) (result : Result Unit PermitFault) (fault : PermitFault) → IsErrAnd result (λ f. f ≡ fault)
    → HasFailed initial old new request fault → HasPerformed initial old new request index result
fault_performed initial old new request index (Ok done) fault err failed = absurd err
fault_performed initial old new request index (Err f) fault err failed = subst (HasFailed initial old new request) (sym err) failed

-- an item that is stored is the worker's next
item_next : (w : WorkerState) (request : Request) (reply : Reply) → IsReplyTo w.counters w.journal.worker request reply → is_view request ≡ false → IsNextIf w reply
item_next w (StoreItem facts time) reply is store = subst (IsNextIf w) (sym is) refl
item_next w (StoreBid bidder item amount time) reply is store = subst (IsNextIf w) (sym is) tt
item_next w (StoreComment author about item stars) reply is store = subst (IsNextIf w) (sym is) tt
item_next w (BuyNow buyer item quantity time) reply is store = subst (IsNextIf w) (sym is) tt
item_next w request reply is store = absurd (true≢false store)

next_by : (w : WorkerState) (request : Request) (reply : Reply) (refused : Option Refusal) → MatchOption refused (IsReplyTo w.counters w.journal.worker request reply) (λ reason. reply ≡ Refused reason) → is_view request ≡ false → IsNextIf w reply
next_by w request reply None is store = item_next w request reply is store
next_by w request reply (Some reason) is store = subst (IsNextIf w) (sym is) tt

pub next_reply : (w : WorkerState) (seen : Option (Facts × ℕ)) (request : Request) (reply : Reply) → IsReplyBy w seen request reply → is_view request ≡ false → IsNextIf w reply
next_reply w seen request reply is store = next_by w request reply (refusal_by w.opening seen request) is store

-- so the objects that the reply names are those that were asked for
pub same_named : (w : WorkerState) (shards number index : ℕ) (request : Request) (reply : Reply) (found : ReadSet) → number_refusal w.opening request ≡ None
    → IsAnswered (setting_of w shards) w.counters (txn_of w number request index reply found) → objects_named request reply ≡ objects_named request (ItemStored (next_item w))
same_named w shards number index (StoreItem facts time) reply found allowed answered =
    let is : reply ≡ ItemStored (next_item w) = subst (λ first. MatchOption (option_or first None) (reply ≡ ItemStored (next_item w)) (λ reason. reply ≡ Refused reason)) allowed answered.answered in
    ap (λ r. objects_named (StoreItem facts time) r) is
same_named w shards number index request reply found allowed answered = refl

-- the item that a worker stores next is not hot
pub next_cold : (w : WorkerState) (b : Bool) → is_hot (hot_objects w.slices) (Item (next_item w)) ≡ b → IsLawfulWorker w → b ≡ false
next_cold w true hot lawful = let less = lawful.stored (next_item w) hot refl in absurd (omega (arith, less))
next_cold w false cold lawful = refl

cold_shard : (hots : List (Object × Hot)) (shards : ℕ) (item : ItemId) (h : Home) → IsHomeOf hots shards (Item item) h → is_hot (hot_objects hots) (Item item) ≡ false → (t : ℕ) × (shard_at h ≡ Some t)
cold_shard hots shards item home.Nowhere at cold = absurd at
cold_shard hots shards item (home.Slice place) at cold = absurd (true≢false (sym at.1 ∙ cold))
cold_shard hots shards item (home.Shard shard) at cold = (shard, refl)

-- so it lies in the first shard that was taken
pub item_first : {N : Type 0} (step : Step) (w : WorkerState) (request : Request) (b : Begun N) → HasBegun step w request b → IsLawfulWorker w → HasFirst w request b.taken
item_first step w (StoreItem facts time) b begun lawful stores =
    let homes = step.homes in let at = begun.may.homes_are.0 in
    let shard = cold_shard w.slices (length step.initial) (next_item w) homes.item at (next_cold w (is_hot (hot_objects w.slices) (Item (next_item w))) refl lawful) in
    first_has step.initial step.workers w.key w.slices b.taken homes.item homes.other (next_item w) shard.0 at shard.1 begun.taken.numbers begun.taken.taken
item_first step w request b begun lawful stores = absurd stores

-- so does the item that a request needs, where it lies in a shard
pub needed_first : {N : Type 0} (step : Step) (w : WorkerState) (request : Request) (b : Begun N) → HasBegun step w request b → (item : ItemId) (t : ℕ) → item_of request ≡ Some item → shard_at step.homes.item ≡ Some t
    → FirstHas b.taken item
needed_first step w request b begun item t needs at =
    let homes = step.homes in
    first_has step.initial step.workers w.key w.slices b.taken homes.item homes.other item t (item_home w (length step.initial) request homes item begun.may.homes_are needs) at begun.taken.numbers begun.taken.taken

-- what was seen of an item, hot or not
seen_by_home : (hots : List (Object × Hot)) (shards : ℕ) (item : ItemId) (h : Home) (seen found : Option (Facts × ℕ)) → IsHomeOf hots shards (Item item) h → (shard_at h ≡ None → seen ≡ stock_of (stocks_of hots) (Item item)) → found ≡ seen
    → seen ≡ cond (is_hot (hot_objects (stocks_of hots)) (Item item)) (stock_of (stocks_of hots) (Item item)) found
seen_by_home hots shards item home.Nowhere seen found at fixed same = absurd at
seen_by_home hots shards item (home.Slice place) seen found at fixed same = fixed refl ∙ sym (ap (λ b. cond b (stock_of (stocks_of hots) (Item item)) found) (in_setting hots (Item item) at.1))
seen_by_home hots shards item (home.Shard shard) seen found at fixed same = sym same ∙ sym (ap (λ b. cond b (stock_of (stocks_of hots) (Item item)) found) (in_setting hots (Item item) at.1))

module _ {N : Type 0} (step : Step) (w : WorkerState) (request : Request) (b : Begun N) (begun : HasBegun step w request b) where
  -- what was done on its shards, and put back, is a commit
  pub begun_commits : (new : WorkerState) (index : ℕ) (reply : Reply) (seen : Option (Facts × ℕ)) (deeds : Deeds) → footprint_on deeds ≡ footprint_of step.homes
      → AreDeedsOf w.slices (length step.initial) (acts_for w.journal.worker seen request reply) (event_with seen reply deeds.first) (event_with seen reply deeds.second) deeds.home deeds.other
      → AllByRecursion (AreGoodOn (shard_at deeds.home) (shard_at deeds.other) (event_with seen reply deeds.first) (event_with seen reply deeds.second)) (held_in b.taken)
      → IsAnswered (setting_of w (length step.initial)) w.counters (txn_of w b.number request index reply (found_on seen b.taken))
      → HasPutAll step.initial w.key new.key (is_one_of (numbers_of (held_in b.taken)))
      (line_among b.number index (held_in b.taken) (dealt b.taken (two_acts (acts_dealt deeds))))
      → new ≡ record (after_commit w b.number index request reply) { key = new.key } → HasCommitted step.initial (record w { key = step.key }) new request index reply
  begun_commits new index reply seen deeds foot owed good answered put committed =
      store_commits step.initial (record w { key = step.key }) new w.key request step.homes b.taken begun.taken begun.may.asked index b.number reply seen deeds foot owed good begun.may.allowed
      (same_named w (length step.initial) b.number index request reply (found_on seen b.taken) begun.may.allowed answered) put committed answered begun.numbered begun.within

  -- and where memory was refused, and they went back as they were, it failed
  pub begun_fails : (new : WorkerState) → AreBack w.key new.key → StoresItem request → new ≡ record w { key = new.key } → HasFailed step.initial (record w { key = step.key }) new request Memory
  begun_fails new put stores same =
      let numbered : b.number ≡ suc (max w.clock (greatest_by (λ (h : HeldState). clock h.shard) (held_in b.taken))) = begun.numbered in
      let within = begun.within in
      store_fails step.initial (record w { key = step.key }) new w.key request step.homes b.taken begun.taken begun.may.asked put Memory same begun.may.goes (omega (arith, numbered, within), stores, begun.may.allowed)

  -- a store
  module _ (seen : Option (Facts × ℕ)) (store : is_view request ≡ false) (is_seen : IsSeen w request step.homes b.taken seen) where
    pub seen_answered : (index : ℕ) (reply : Reply) → IsReplyBy w seen request reply → IsAnswered (setting_of w (length step.initial)) w.counters (txn_of w b.number request index reply (found_on seen b.taken))
    seen_answered index reply by =
        store_answered w (length step.initial) b.number index request reply (found_on seen b.taken) seen store begun.may.goes by
        (λ item needs. seen_by_home w.slices (length step.initial) item step.homes.item seen seen (item_home w (length step.initial) request step.homes item begun.may.homes_are needs) (is_seen.fixed item needs) refl)

    -- what is so by what is known of it on each shard that it took
    on_each : {P : HeldState → Type 0} (reply : Reply) → IsReplyBy w seen request reply → HaveOpening step.initial w.opening → ((h : HeldState) → IsAnsweredOn step w request seen reply h → P h)
        → (held : List HeldState) → AllByRecursion (IsAsTaken step.initial step.workers w.key) held → AllByRecursion (λ (h : HeldState). clock h.shard < b.number) held
        → ((item : ItemId) → item_of request ≡ Some item → AllByRecursion (λ (h : HeldState). shard_at step.homes.item ≡ Some h.number → seen ≡ stock (contents h.shard (Item item))) held)
        → (StoresItem request → AllByRecursion (λ (h : HeldState). shard_at step.homes.item ≡ Some h.number → HasItemRoom h.shard (next_item w)) held) → AllByRecursion P held
    on_each reply by opened so [] all later found room = tt
    on_each reply by opened so (h ∷ held) all later found room = (
      so h (record {
        taken = all.0;
        opened = opened;
        below = let within = begun.within in let less = later.0 in omega (arith, within, less);
        homes_are = begun.may.homes_are;
        allowed = begun.may.allowed;
        answered = by;
        next = next_reply w seen request reply by store;
        found = λ item needs. (found item needs).0;
        room = λ stores. (room stores).0;
      }),
      on_each reply by opened so held all.1 later.1 (λ item needs. (found item needs).1) (λ stores. (room stores).1),
    )

    module _ (reply : Reply) (deeds : Deeds) (room : HasRoomFor w request b.taken) (by : IsReplyBy w seen request reply) (opened : HaveOpening step.initial w.opening)
        (good : (held : HeldState) → IsAnsweredOn step w request seen reply held → AreGoodOn (shard_at deeds.home) (shard_at deeds.other) (event_with seen reply deeds.first) (event_with seen reply deeds.second) held) where
      pub begun_good : AllByRecursion (AreGoodOn (shard_at deeds.home) (shard_at deeds.other) (event_with seen reply deeds.first) (event_with seen reply deeds.second)) (held_in b.taken)
      begun_good =
          on_each reply by opened good (held_in b.taken) begun.taken.taken (clocks_below b.taken w.clock b.number begun.numbered)
          (λ item needs. found_there b.taken (shard_at step.homes.item) (shard_at step.homes.other) item seen begun.taken.numbers (λ t at. is_seen.found item t needs at))
          (λ stores. room_there b.taken (shard_at step.homes.item) (shard_at step.homes.other) (next_item w) begun.taken.numbers (room stores))

      pub begun_can : footprint_on deeds ≡ footprint_of step.homes → CanBeDoneOnAll b.number (held_in b.taken) (dealt b.taken (two_acts (acts_dealt deeds)))
      begun_can foot =
          can_deal seen reply deeds.first deeds.second b.number b.taken (shard_at deeds.home) (shard_at deeds.other) (begun.taken.numbers ∙ sym foot) (clocks_below b.taken w.clock b.number begun.numbered) begun_good
