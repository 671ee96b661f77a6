-- A bid on an item in a shard, which refuses it or takes it by one look-up: that is a commit.
use Rattle.std.proofs.Common.{◌≡◌, ◌==◌, ◌||◌, ℕ, ◌<◌, Bool, true, false, cond, List, [], ◌∷◌, length, map, Option, Some, None, refl, sym, ap, ◌∙◌, arith, eq-eqb}
use Rattle.std.proofs.lemmas.Option.{none-some, same_Some}
use Rattle.auction_rows.specs.{Footprint.{is_hot}, Replies.{row_if}}
use Rattle.auction_rows.specs.declared.replies.Reply.TheVariants.{BidStored}
use Rattle.auction_rows.specs.declared.requests.Object.TheVariants.{Item}
use Rattle.auction_rows.specs.declared.{requests.ItemId.ItemId, requests.BidId.BidId, requests.Facts.Facts, requests.BidEntry.BidEntry, requests.Object.Object, requests.Request.Request, replies.Refusal.Refusal, replies.Reply.Reply}
use Rattle.auction_rows.specs.declared.rows.Row.TheVariants as row
use Rattle.item_shards.specs.{Answering.{bid_request, refusal_with}, Events.{Event}}
use Rattle.item_shards.specs.{ShardContents.{clock, contents}, Values.{stock}}
use Rattle.item_shards.specs.Writing.{done_on, is_done_on, padded, writes_if}
use Rattle.item_shards.specs.declared.shard.acts.Act.TheVariants.{Look}
use Rattle.item_shards.specs.Events as event
use Rattle.item_shards.specs.Shown as shown
use Rattle.item_shards.specs.declared.shard.acts.Look.TheVariants as look
use Rattle.shard_boxes.specs.Helds.{CanBid, HeldState, IsHeldFor, IsPutWith}
use Rattle.shard_boxes.specs.Lines.{bid_act, bid_acts, line_of}
use Rattle.phase_transactions.proofs.{AnswerLemmas.{reply_by}, ArmLemmas.{bid_arm}}
use Rattle.phase_transactions.proofs.BegunLemmas.{begun_commits, begun_good, needed_first, seen_answered}
use Rattle.phase_transactions.proofs.{DeedLemmas.{done_is}, PutAllLemmas.{none_put, put_more}}
use Rattle.phase_transactions.specs.Performing.{HasCommitted, HaveOpening}
use Rattle.phase_transactions.specs.Workers.{WorkerState, next_bid, with_entry, after_commit}
use Rattle.phase_transactions.specs.declared.{deeds.Deeds.{Deeds}, taken.Begun.{Begun}}
use Rattle.phase_transactions.specs.inner.Begun.{Step, HasBegun, IsAnsweredOn, IsSeen}
use Rattle.phase_transactions.specs.inner.Deeds.{IsReplyBy, IsReplyUnless, AreDeedsOf, AreGoodOn, acts_for, deeds_on, event_with, is_at}
use Rattle.phase_transactions.specs.inner.HeldShards.{IsAsTaken}
use Rattle.phase_transactions.specs.inner.Takens.{each_once, footprint_of, held_in}
use Rattle.phase_transactions.specs.declared.taken.Taken.TheVariants as taken
use Rattle.worker_slices.{proofs.SlicedLemmas.{cold_kept}, specs.Homes.{IsHomeOf, shard_at}}
use Rattle.worker_slices.specs.Slicing.{hot_objects, slice_with_bid, slices_after_acts}
use Rattle.worker_slices.specs.declared.{homes.Home.{Home}, slices.Hot.{Hot}}
use Rattle.worker_slices.specs.declared.homes.Home.TheVariants as home

-- both acts of a bid are done on the shard in which its item has its home
two_owed : (hots : List (Object × Hot)) (shards t : ℕ) (x y : Event) (h : Home) → is_done_on t shards (hot_objects hots) x ≡ is_at h t → is_done_on t shards (hot_objects hots) y ≡ is_at h t
    → padded (cond (is_done_on t shards (hot_objects hots) x) (x ∷ cond (is_done_on t shards (hot_objects hots) y) (y ∷ []) []) (cond (is_done_on t shards (hot_objects hots) y) (y ∷ []) [])) ≡ deeds_on x y h h t
two_owed hots shards t x y h first second = λ i. padded (cond (first i) (x ∷ cond (second i) (y ∷ []) []) (cond (second i) (y ∷ []) []))

-- a look at nothing adds nothing
no_more : (b : Bool) (x : Event) → padded (cond b (x ∷ []) []) ≡ padded (cond b (x ∷ cond b (event.Look shown.Nothing ∷ []) []) (cond b (event.Look shown.Nothing ∷ []) []))
no_more true x = refl
no_more false x = refl

one_owed : (hots : List (Object × Hot)) (shards t : ℕ) (x : Event) (h : Home) → is_done_on t shards (hot_objects hots) x ≡ is_at h t
    → padded (cond (is_done_on t shards (hot_objects hots) x) (x ∷ []) []) ≡ deeds_on x (event.Look shown.Nothing) h h t
one_owed hots shards t x h first = ap (λ b. padded (cond b (x ∷ []) [])) first ∙ no_more (is_at h t) x

at_number : (a : Option ℕ) (other : Home) (n : ℕ) → n ∷ [] ≡ each_once a (shard_at other) → other ≡ home.Nowhere → a ≡ Some n
at_number None other n is none = absurd (cc (is ∙ ap (λ h. each_once None (shard_at h)) none))
at_number (Some t) other n is none = let same : n ∷ [] ≡ t ∷ [] = is ∙ ap (λ h. each_once (Some t) (shard_at h)) none in cc

twice : (n : ℕ) → each_once (Some n) (Some n) ≡ n ∷ []
twice n = rw (eq-eqb n n refl) refl

-- an object in a shard is not hot
cold_home : (hots : List (Object × Hot)) (shards : ℕ) (object : Object) (h : Home) (n : ℕ) → IsHomeOf hots shards object h → shard_at h ≡ Some n → is_hot (hot_objects hots) object ≡ false
cold_home hots shards object home.Nowhere n is some = absurd is
cold_home hots shards object (home.Slice place) n is some = absurd (none-some n some)
cold_home hots shards object (home.Shard shard) n is some = is.1

-- what a bid writes of an item that is not hot changes no slice
bid_unsliced : (hots : List (Object × Hot)) (item : ItemId) (id : BidId) (bidder amount time : ℕ) (own : Bool) → is_hot (hot_objects hots) (Item item) ≡ false
    → hots ≡ slices_after_acts hots (writes_if (row_if own (row.Bid (record { id = id; item = item; bidder = bidder; amount = amount; time = time }))))
bid_unsliced hots item id bidder amount time true cold = sym (cold_kept hots (Item item) (slice_with_bid (record { amount = amount; time = time; id = id; bidder = bidder })) cold)
bid_unsliced hots item id bidder amount time false cold = refl

-- the deeds of a bid at a home
abbrev deeds_at : Home → ItemId → BidEntry → Option Refusal → Deeds
deeds_at at item entry refused = record { first = Look (look.Left item); second = bid_act item entry refused; home = at; other = at }

module _ {N : Type 0} (step : Step) (w : WorkerState) (item : ItemId) (entry : BidEntry) (b : Begun N)
    (begun : HasBegun step w (bid_request item entry) b) where
  abbrev request : Request
  request = bid_request item entry

  module _ (held : HeldState) (is : b.taken ≡ taken.One held) where
    abbrev seen : Option (Facts × ℕ)
    seen = stock (contents held.shard (Item item))

    its_number : shard_at step.homes.item ≡ Some held.number
    its_number = at_number (shard_at step.homes.item) step.homes.other held.number (sym (ap (λ took. map (λ (h : HeldState). h.number) (held_in took)) is) ∙ begun.taken.numbers) begun.may.homes_are.1

    its_taken : IsAsTaken step.initial step.workers w.key held
    its_taken = (rw is at begun.taken.taken).0

    its_clock : clock held.shard < b.number
    its_clock = let numbered = rw is at begun.numbered in omega (arith, numbered)

    -- the shard can be bid on, and go back
    pub bid_held : IsHeldFor step.initial w.key held b.number
    bid_held = record {
      holder = begun.held.holds held.number ∙ rw is (ap (λ b. b || false) (eq-eqb held.number held.number refl));
      taken = its_taken.state_is;
      later = its_clock;
      within = begun.within;
    }

    pub bid_can : CanBid held.shard (record { item = item; entry = entry })
    bid_can = let within = begun.within in let later = its_clock in record {
      here = rw is at (needed_first step w request b begun item held.number refl its_number);
      count = omega (arith, its_taken.within.bids item, within, later);
    }

    -- no slice has its operation
    pub bid_entered : (index : ℕ) (reply : Reply) → with_entry w b.number index request reply ≡ after_commit w b.number index request reply
    bid_entered index (BidStored id) =
        let cold = cold_home w.slices (length step.initial) (Item item) step.homes.item held.number begun.may.homes_are.0 its_number in
        λ i. record (with_entry w b.number index request (BidStored id)) { slices = bid_unsliced w.slices item id entry.bidder entry.amount entry.time (id.worker == w.journal.worker) cold i }
    bid_entered index reply = refl

    is_seen : IsSeen w request step.homes b.taken seen
    is_seen = record {
      fixed = λ other needs none. absurd (cc (sym none ∙ its_number));
      found = λ other t needs at. rw is (ap (λ id. stock (contents held.shard (Item id))) (same_Some _ _ needs));
    }

    module _ (refused : Option Refusal) (reply : Reply) (by : refused ≡ refusal_with seen request) (answered : IsReplyUnless w refused request reply) where
      replied : IsReplyBy w seen request reply
      replied = reply_by w seen request refused reply begun.may.allowed by answered

      module _ (id : entry.id ≡ next_bid w) where
        abbrev deeds : Deeds
        deeds = deeds_at step.homes.item item entry refused

        foot : each_once (shard_at step.homes.item) (shard_at step.homes.item) ≡ footprint_of step.homes
        foot = ap (λ a. each_once a a) its_number ∙ twice held.number ∙ sym (ap (λ took. map (λ (h : HeldState). h.number) (held_in took)) is) ∙ begun.taken.numbers

        abbrev acts : List Event
        acts = acts_for w.journal.worker seen request reply

        owed : AreDeedsOf w.slices (length step.initial) acts (event_with seen reply deeds.first) (event_with seen reply deeds.second) step.homes.item step.homes.item
        owed t = at refused reply answered where
          its_look : is_done_on t (length step.initial) (hot_objects w.slices) (event.Look (shown.Left item seen)) ≡ is_at step.homes.item t
          its_look = done_is w.slices (length step.initial) t (Item item) step.homes.item begun.may.homes_are.0 (event.Look (shown.Left item seen)) refl

          its_bid : is_done_on t (length step.initial) (hot_objects w.slices) (event.Bid item entry) ≡ is_at step.homes.item t
          its_bid = done_is w.slices (length step.initial) t (Item item) step.homes.item begun.may.homes_are.0 (event.Bid item entry) refl

          at : (refused : Option Refusal) (reply : Reply) → IsReplyUnless w refused request reply
              → padded (done_on t (length step.initial) (hot_objects w.slices) (acts_for w.journal.worker seen request reply))
              ≡ deeds_on (event.Look (shown.Left item seen)) (event_with seen reply (bid_act item entry refused)) step.homes.item step.homes.item t
          at None reply told =
              let stored : reply ≡ BidStored entry.id = told ∙ ap BidStored (sym id) in
              let own : (entry.id.worker == w.journal.worker) ≡ true = eq-eqb entry.id.worker w.journal.worker (ap (λ (b : BidId). b.worker) id) in
              rw stored (rw own (two_owed w.slices (length step.initial) t (event.Look (shown.Left item seen)) (event.Bid item entry) step.homes.item its_look its_bid))
          at (Some reason) reply told = rw told (one_owed w.slices (length step.initial) t (event.Look (shown.Left item seen)) step.homes.item its_look)

        good : (other : HeldState) → IsAnsweredOn step w request seen reply other
            → AreGoodOn (shard_at step.homes.item) (shard_at step.homes.item) (event_with seen reply deeds.first) (event_with seen reply deeds.second) other
        good other its = at refused answered where
          looked : shard_at step.homes.item ≡ Some other.number → seen ≡ stock (contents other.shard (Item item))
          looked = its.found item refl

          at : (refused : Option Refusal) → IsReplyUnless w refused request reply
              → AreGoodOn (shard_at step.homes.item) (shard_at step.homes.item) (event.Look (shown.Left item seen)) (event_with seen reply (bid_act item entry refused)) other
          at None told = bid_arm request reply its entry.bidder item entry.amount entry.time entry.id entry refl (told ∙ ap BidStored (sym id))
          at (Some reason) told = record { first = λ here. (tt, looked here); second = λ here. (tt, tt); after = λ here also. (tt, tt) }

        pub bid_commits : (new : WorkerState) (index : ℕ) → HaveOpening step.initial w.opening
            → IsPutWith step.initial w.key new.key held (line_of b.number index (bid_acts item entry refused) held.shard)
            → new ≡ record (after_commit w b.number index request reply) { key = new.key } → HasCommitted step.initial (record w { key = step.key }) new request index reply
        bid_commits new index opened put committed =
            begun_commits step w request b begun new index reply seen deeds foot owed
            (begun_good step w request b begun seen refl is_seen reply deeds (λ stores. absurd stores) replied opened good)
            (seen_answered step w request b begun seen refl is_seen index reply replied)
            (rw (is, its_number) (put_more _ (rw is at begun.held) put (λ none. none_put _ _ none.holds)))
            committed
