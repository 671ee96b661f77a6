-- The reply to a store: it is the answer by what was seen and by the counters.
use Rattle.std.proofs.Common.{◌≡◌, ℕ, suc, Bool, true, false, cond, List, Option, Some, None, Result, Ok, Err, MatchOption, option_map, option_and_then, unwrap_or, refl, sym, ap, subst, ◌∙◌, arith}
use Rattle.std.{proofs.lemmas.{Bool.{true≢false}, Option.{same_Some}}, specs.Option.{option_or}}
use Rattle.std.specs.{Prelude.{◌≤◌, ◌↔◌, IsNone, IfNone, IfSome, IsErrAnd}, Result.{result_ok}}
use Rattle.auction_rows.specs.{Footprint.{is_hot}, Refusals.{number_refusal, item_refusal}}
use Rattle.auction_rows.specs.{Replies.{row_of}, Requests.{item_of, is_view}}
use Rattle.auction_rows.specs.{StoreReplies.{reply_of}, declared.replies.StoreReply.{StoreReply}}
use Rattle.auction_rows.specs.declared.replies.Reply.TheVariants.{Refused}
use Rattle.auction_rows.specs.declared.requests.Object.TheVariants.{Item}
use Rattle.auction_rows.specs.declared.requests.Request.TheVariants.{StoreItem, StoreBid, StoreComment, BuyNow, ViewItem, ViewBids, ViewCategory, ViewUser}
use Rattle.auction_rows.specs.declared.{values.Opening.Opening, requests.ItemId.ItemId, requests.Facts.Facts, requests.Object.Object, requests.Request.Request, replies.Refusal.Refusal, replies.Reply.Reply}
use Rattle.item_shards.specs.{Answering.{refusal_with}, CommitNumbers.{last_number}}
use Rattle.item_shards.specs.{ShardContents.{contents}, Values.{stock}, Writing.{writes_if}}
use Rattle.worker_slices.specs.{Counting.{IsOwn}, Homes.{IsHomeOf, IsWrittenAt, shard_at}}
use Rattle.worker_slices.specs.Slicing.{hot_objects, stocks_of, stock_of, slices_after_acts}
use Rattle.worker_slices.specs.declared.{counters.Counters.{Counters}, homes.Home.{Home}}
use Rattle.worker_slices.specs.declared.{homes.Homes.{Homes}, slices.Hot.{Hot}}
use Rattle.worker_slices.specs.declared.homes.Home.TheVariants as home
use Rattle.phase_transactions.proofs.HomeLemmas.{same_objects_of}
use Rattle.phase_transactions.specs.Performing.{HasStoredSome}
use Rattle.phase_transactions.specs.Txns.{refusal_by, refusal_seen, reason_seen, stock_seen, is_put_off, IsReplyTo, IsAnswered, ReadSet}
use Rattle.phase_transactions.specs.Workers.{WorkerState, setting_of, txn_of, hot_txn, nothing, with_entry, after_commit}
use Rattle.phase_transactions.specs.declared.fault.PermitFault.{PermitFault}
use Rattle.phase_transactions.specs.declared.fault.PermitFault.TheVariants.{Memory, NumberFull}
use Rattle.phase_transactions.specs.declared.{asked.Stored.{Stored}, taken.Taken.{Taken}}
use Rattle.phase_transactions.specs.declared.asked.Stored.TheVariants as stored
use Rattle.phase_transactions.specs.inner.{Asking.{store_request}, Begun.{IsRefusedBy}}
use Rattle.phase_transactions.specs.inner.Deeds.{IsReplyBy, IsReplyUnless, stock_on, stock_taken}
use Rattle.phase_transactions.specs.inner.Homes.{AreHomesOf, HasHomes}
use Rattle.phase_transactions.specs.inner.Storing.{HasStoredOrIsFull}
use Rattle.phase_transactions.specs.declared.taken.Taken.TheVariants as taken

-- an id in a reply to a store is one of the worker
own_answer : (counters : Counters) (worker : ℕ) (request : Request) (reply : Reply) → IsReplyTo counters worker request reply → is_view request ≡ false → IsOwn worker reply
own_answer counters worker (ViewItem item) reply is store = absurd (true≢false store)
own_answer counters worker (ViewBids item) reply is store = absurd (true≢false store)
own_answer counters worker (ViewCategory category) reply is store = absurd (true≢false store)
own_answer counters worker (ViewUser user) reply is store = absurd (true≢false store)
own_answer counters worker request reply is store = subst (IsOwn worker) (sym is) refl

own_by : (counters : Counters) (worker : ℕ) (request : Request) (reply : Reply) (refused : Option Refusal) → MatchOption refused (IsReplyTo counters worker request reply) (λ reason. reply ≡ Refused reason)
    → is_view request ≡ false → IsOwn worker reply
own_by counters worker request reply None is store = own_answer counters worker request reply is store
own_by counters worker request reply (Some reason) is store = subst (IsOwn worker) (sym is) tt

pub own_reply : (w : WorkerState) (seen : Option (Facts × ℕ)) (request : Request) (reply : Reply) → IsReplyBy w seen request reply → is_view request ≡ false → IsOwn w.journal.worker reply
own_reply w seen request reply is store = own_by w.counters w.journal.worker request reply (refusal_by w.opening seen request) is store

-- what is seen counts only where an item is needed
item_unseen : (opening : Opening) (facts : Facts) (time : ℕ) (seen : Option (Facts × ℕ)) → refusal_by opening seen (StoreItem facts time) ≡ refusal_by opening None (StoreItem facts time)
item_unseen opening facts time None = refl
item_unseen opening facts time (Some stock) = refl

pub refusal_as : (opening : Opening) (request : Request) (seen : Option (Facts × ℕ)) (other : ItemId → Option (Facts × ℕ)) → is_view request ≡ false → ((item : ItemId) → item_of request ≡ Some item → seen ≡ other item)
    → refusal_by opening seen request ≡ refusal_by opening (option_and_then other (item_of request)) request
refusal_as opening (StoreItem facts time) seen other store same = item_unseen opening facts time seen
refusal_as opening (StoreBid bidder item amount time) seen other store same = ap (λ s. refusal_by opening s (StoreBid bidder item amount time)) (same item refl)
refusal_as opening (StoreComment author about item stars) seen other store same = ap (λ s. refusal_by opening s (StoreComment author about item stars)) (same item refl)
refusal_as opening (BuyNow buyer item quantity time) seen other store same = ap (λ s. refusal_by opening s (BuyNow buyer item quantity time)) (same item refl)
refusal_as opening request seen other store same = absurd (true≢false store)

-- the reply by the refusal of its item is that by what was seen of the item
pub reply_by : (w : WorkerState) (seen : Option (Facts × ℕ)) (request : Request) (refused : Option Refusal) (reply : Reply) → number_refusal w.opening request ≡ None → refused ≡ refusal_with seen request
    → IsReplyUnless w refused request reply → IsReplyBy w seen request reply
reply_by w seen request refused reply allowed by is =
    subst (λ reason. IsReplyUnless w reason request reply) (by ∙ sym (ap (λ first. option_or first (refusal_with seen request)) allowed)) is

-- a store that is no bid is no view
pub stores : (asks : Stored) → is_view (store_request asks) ≡ false
stores (stored.Item facts time) = refl
stores (stored.Comment author about item stars) = refl
stores (stored.Buy buyer item quantity time) = refl

-- the reply that is due, or a refusal
pub unless_due : (w : WorkerState) (request : Request) (refused : Option Refusal) (reply due : StoreReply) → MatchOption refused (reply ≡ due) (λ reason. reply_of reply ≡ Refused reason)
    → IsReplyTo w.counters w.journal.worker request (reply_of due) → IsReplyUnless w refused request (reply_of reply)
unless_due w request None reply due is told = subst (λ r. IsReplyTo w.counters w.journal.worker request (reply_of r)) (sym is) told
unless_due w request (Some reason) reply due is told = is

-- the home of a request's item
pub item_home : (w : WorkerState) (shards : ℕ) (request : Request) (homes : Homes) (item : ItemId) → AreHomesOf w shards request homes → item_of request ≡ Some item → IsHomeOf w.slices shards (Item item) homes.item
item_home w shards (StoreItem facts time) homes item are is = absurd (cc)
item_home w shards (ViewCategory category) homes item are is = absurd (cc)
item_home w shards (ViewUser user) homes item are is = absurd (cc)
item_home w shards request homes item are is = subst (λ i. IsHomeOf w.slices shards (Item i) homes.item) (same_Some _ item is) are.0

-- what refuses a store whose item lies in a shard that was taken
seen_taken : {N : Type 0} (took : Taken N) (request : Request) (item : ItemId) → item_of request ≡ Some item → stock_taken took request ≡ stock_on took item
seen_taken taken.Nothing request item needs = refl
seen_taken (taken.One one) request item needs = ap (option_and_then (λ id. stock (contents one.shard (Item id)))) needs
seen_taken (taken.Two one other) request item needs = ap (option_and_then (λ id. stock (contents one.shard (Item id)))) needs

pub refused_by_shard : {N : Type 0} (w : WorkerState) (request : Request) (homes : Homes) (took : Taken N) (shard : ℕ) (refused : Option Refusal) → homes.item ≡ home.Shard shard
    → refused ≡ refusal_with (stock_taken took request) request → IsRefusedBy w request homes took refused
refused_by_shard w request homes took shard refused at by =
    let there = ap shard_at at in record {
      seen = stock_taken took request;
      saw = record { fixed = λ item needs none. absurd (cc (there, none)); found = λ item t needs is. seen_taken took request item needs };
      by = by;
    }

-- and one whose item is hot
in_no_shard : (h : Home) (t : ℕ) → ((n : ℕ) → h ≡ home.Shard n → ⊥) → shard_at h ≡ Some t → ⊥
in_no_shard home.Nowhere t other is = absurd (cc)
in_no_shard (home.Slice place) t other is = absurd (cc)
in_no_shard (home.Shard n) t other is = other n refl

pub refused_by_fixed : {N : Type 0} (w : WorkerState) (shards : ℕ) (request : Request) (homes : Homes) (took : Taken N) (seen : Option (Facts × ℕ)) (refused : Option Refusal)
    → AreHomesOf w shards request homes → ((object : Object) (some : ℕ) → IsHomeOf w.slices some object homes.item → shard_at homes.item ≡ None → seen ≡ stock_of (stocks_of w.slices) object)
    → ((n : ℕ) → homes.item ≡ home.Shard n → ⊥) → refused ≡ refusal_with seen request → IsRefusedBy w request homes took refused
refused_by_fixed w shards request homes took seen refused are fixed other by = record {
  seen = seen;
  saw = record {
    fixed = λ item needs none. fixed (Item item) shards (item_home w shards request homes item are needs) none;
    found = λ item t needs is. absurd (in_no_shard homes.item t other is);
  };
  by = by;
}

-- what a store writes has its home among them
pub written_at : (w : WorkerState) (request : Request) (homes : Homes) → HasHomes w request homes → IsWrittenAt w.slices request homes
written_at w (StoreItem facts time) homes has = (has.0, has.1.1)
written_at w (StoreBid bidder item amount time) homes has = (has.0, has.1.0)
written_at w (StoreComment author about item stars) homes has = (has.0, has.1.1)
written_at w request homes has = (has.0, tt)

-- an object whose home is no shard is hot
hot_home : (hots : List (Object × Hot)) (shards : ℕ) (object : Object) (h : Home) → IsHomeOf hots shards object h → shard_at h ≡ None → is_hot (hot_objects hots) object ≡ true
hot_home hots shards object home.Nowhere is none = absurd is
hot_home hots shards object (home.Slice place) is none = is.1
hot_home hots shards object (home.Shard shard) is none = absurd (cc)

pub in_setting : {hot : Bool} (hots : List (Object × Hot)) (object : Object) → is_hot (hot_objects hots) object ≡ hot → is_hot (hot_objects (stocks_of hots)) object ≡ hot
in_setting hots object is = ap (λ objects. is_hot objects object) (same_objects_of hots) ∙ is

-- the reply to a store by what was seen is the answer
pub store_answered : (w : WorkerState) (shards number index : ℕ) (request : Request) (reply : Reply) (found : ReadSet) (seen : Option (Facts × ℕ))
    → is_view request ≡ false → is_put_off (hot_objects w.slices) request ≡ false → IsReplyBy w seen request reply
    → ((item : ItemId) → item_of request ≡ Some item → seen ≡ stock_seen (setting_of w shards) (txn_of w number request index reply found) item)
    → IsAnswered (setting_of w shards) w.counters (txn_of w number request index reply found)
store_answered w shards number index request reply found seen store goes is same =
    let z = setting_of w shards in let txn = txn_of w number request index reply found in
    let reasons : refusal_by w.opening seen request ≡ reason_seen z txn =
    refusal_as w.opening request seen (stock_seen z txn) store same ∙ sym (ap (λ b. cond b (number_refusal w.opening request) (refusal_seen z txn)) store) in
    record {
      answered = subst (λ refused. MatchOption refused (IsReplyTo w.counters w.journal.worker request reply) (λ reason. reply ≡ Refused reason)) reasons is;
      not_put_off = ap (λ objects. is_put_off objects request) (same_objects_of w.slices) ∙ goes;
    }

-- so is that to a store on a hot item
pub hot_answered : (w : WorkerState) (shards known index : ℕ) (request : Request) (homes : Homes) (reply : Reply) (seen : Option (Facts × ℕ))
    → is_view request ≡ false → is_put_off (hot_objects w.slices) request ≡ false → AreHomesOf w known request homes → shard_at homes.item ≡ None
    → ((object : Object) (some : ℕ) → IsHomeOf w.slices some object homes.item → shard_at homes.item ≡ None → seen ≡ stock_of (stocks_of w.slices) object)
    → IsReplyBy w seen request reply → IsAnswered (setting_of w shards) w.counters (hot_txn w request index reply)
hot_answered w shards known index request homes reply seen store goes are none fixed is =
    store_answered w shards (suc w.clock) index request reply nothing seen store goes is
    (λ item needs.
    let at = item_home w known request homes item are needs in
    fixed (Item item) known at none ∙ sym (ap (λ b. cond b (stock_of (stocks_of w.slices) (Item item)) None) (in_setting w.slices (Item item) (hot_home w.slices known (Item item) homes.item at none))))

-- a request that the opening refuses
no_row : (worker : ℕ) (request : Request) (reason : Refusal) → row_of worker request (Refused reason) ≡ None
no_row worker (StoreItem facts time) reason = refl
no_row worker request reason = refl

either_reason : (b : Bool) (first by_item : Option Refusal) (reason : Refusal) → first ≡ Some reason → cond b first (option_or first by_item) ≡ Some reason
either_reason true first by_item reason is = is
either_reason false first by_item reason is = ap (λ one. option_or one by_item) is

pub refusal_stored : (w new : WorkerState) (number index : ℕ) (request : Request) (reason : Refusal) → number_refusal w.opening request ≡ Some reason → is_put_off (hot_objects w.slices) request ≡ false
    → number ≡ suc w.clock → number ≤ last_number → new ≡ with_entry w number index request (Refused reason) → HasStoredOrIsFull w new request index (Ok tt)
refusal_stored w new number index request reason refused goes next within is = (
  omega (arith, next, within),
  (
    Refused reason,
    record {
      worker =
          is
          ∙ (λ i. with_entry w (next i) index request (Refused reason))
          ∙ (λ i. record (with_entry w (suc w.clock) index request (Refused reason)) { slices = slices_after_acts w.slices (writes_if (sym (no_row w.journal.worker request reason) i)) });
      answered = λ shards.
          let z = setting_of w shards in let txn = hot_txn w request index (Refused reason) in
          let seen = option_and_then (stock_seen z txn) (item_of request) in
          let by_item = item_refusal request (option_map (λ s. s.0) seen) (unwrap_or (option_map (λ s. s.1) seen) 0) in
          record {
            answered = subst (λ reasons. MatchOption reasons (IsReplyTo w.counters w.journal.worker request (Refused reason)) (λ why. Refused reason ≡ Refused why))
                (sym (either_reason (is_view request) (number_refusal w.opening request) by_item reason refused)) refl;
            not_put_off = ap (λ objects. is_put_off objects request) (same_objects_of w.slices) ∙ goes;
          };
    },
  ),
)

pub hot_stored : (w new : WorkerState) (number index : ℕ) (request : Request) (reply : Reply) → ((shards : ℕ) → IsAnswered (setting_of w shards) w.counters (hot_txn w request index reply))
    → number ≡ suc w.clock → number ≤ last_number → new ≡ after_commit w number index request reply → HasStoredOrIsFull w new request index (Ok tt)
hot_stored w new number index request reply answered next within is = (
  omega (arith, next, within),
  (
    reply,
    record {
      worker = is ∙ (λ i. after_commit w (next i) index request reply);
      answered = answered;
    },
  ),
)

-- where there is no number nothing was stored
pub full_stored : (w : WorkerState) (request : Request) (index : ℕ) (result : Result Unit PermitFault) (fault : PermitFault) → IsErrAnd result (λ f. f ≡ fault) → fault ≡ NumberFull → last_number ≤ w.clock
    → HasStoredOrIsFull w w request index result
full_stored w request index (Ok done) fault err is full = absurd err
full_stored w request index (Err f) fault err is full = subst (λ g. HasStoredOrIsFull w w request index (Err g)) (sym (err ∙ is)) (full, refl)

-- what became of it, as an option
module _ (old new : WorkerState) (request : Request) (index : ℕ) where
  pub none_if_full : (result : Result Unit PermitFault) → HasStoredOrIsFull old new request index result → (IsNone (result_ok result) ↔ (last_number ≤ old.clock))
  none_if_full (Ok done) its = let below = its.0 in ((λ none. absurd (true≢false none)), (λ full. absurd (omega (arith, full, below))))
  none_if_full (Err Memory) its = absurd its
  none_if_full (Err NumberFull) its = ((λ none. its.0), (λ full. refl))

  pub same_if_none : (result : Result Unit PermitFault) → HasStoredOrIsFull old new request index result → IfNone (result_ok result) (new ≡ old)
  same_if_none (Ok done) its = tt
  same_if_none (Err Memory) its = absurd its
  same_if_none (Err NumberFull) its = its.1

  pub stored_if_some : (result : Result Unit PermitFault) → HasStoredOrIsFull old new request index result → IfSome (result_ok result) (λ _. HasStoredSome old new request index)
  stored_if_some (Ok done) its = its.1
  stored_if_some (Err Memory) its = absurd its
  stored_if_some (Err NumberFull) its = tt
