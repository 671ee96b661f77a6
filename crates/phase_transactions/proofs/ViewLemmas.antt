-- A view: its one shard, and what it does there.
use Rattle.std.proofs.Common.{◌≡◌, ℕ, ◌||◌, suc, max, true, false, cond, List, [], ◌∷◌, length, Option, Some, None, MatchOption, refl, sym, ap, subst, ◌∙◌, arith, eq-eqb}
use Rattle.std.proofs.lemmas.{Bool.{true≢false, false≢true}, Option.{same_Some}}
use Rattle.std.specs.List.{AllByRecursion}
use Rattle.auction_rows.specs.{Footprint.{is_hot}, Refusals.{number_refusal}}
use Rattle.auction_rows.specs.Requests.{is_view, shard_of}
use Rattle.auction_rows.specs.declared.replies.Reply.TheVariants.{Refused}
use Rattle.auction_rows.specs.declared.requests.Object.TheVariants.{Item, User, Category}
use Rattle.auction_rows.specs.declared.requests.Request.TheVariants.{ViewItem, ViewBids, ViewCategory, ViewUser}
use Rattle.auction_rows.specs.declared.{requests.Object.Object, requests.Request.Request, replies.Reply.Reply}
use Rattle.item_shards.specs.{Contents.{target}, Looking.{IsTrueOf}}
use Rattle.item_shards.specs.{ShardContents.{clock, contents, LiesIn}, Writing.{padded, done_on}}
use Rattle.item_shards.specs.declared.shard.acts.Act.TheVariants.{Look}
use Rattle.item_shards.specs.declared.shard.acts.Look.{Look as LookedAt}
use Rattle.item_shards.specs.declared.shard.acts.Look.TheVariants as look
use Rattle.item_shards.specs.Events as event
use Rattle.item_shards.specs.Shown as shown
use Rattle.shard_boxes.specs.{Helds.{HeldState, IsHeldFor}, Keys.{KeyState}, States.{ShardState}}
use Rattle.worker_slices.specs.{Homes.{IsHomeOf, shard_at}, Slicing.{hot_objects}}
use Rattle.worker_slices.specs.declared.{counters.Counters.{Counters}, homes.Home.{Home}}
use Rattle.worker_slices.specs.declared.{homes.Homes.{Homes}, slices.Hot.{Hot}}
use Rattle.worker_slices.specs.declared.homes.Home.TheVariants as home
use Rattle.phase_transactions.proofs.{BegunLemmas.{begun_commits}, DeedLemmas.{done_is, one_owed}}
use Rattle.phase_transactions.proofs.GoodLemmas.{home_number}
use Rattle.phase_transactions.proofs.HomeLemmas.{asked, asks_one, asks_other, same_objects_of, no_other}
use Rattle.phase_transactions.specs.Performing.{HasCommittedSome, HaveOpening}
use Rattle.phase_transactions.specs.Putting.{HasPutAll}
use Rattle.phase_transactions.specs.Txns.{IsReplyTo, IsAnswered, is_put_off, reason_seen, refusal_seen, ReadSet}
use Rattle.phase_transactions.specs.Workers.{WorkerState, setting_of, txn_of, with_entry, after_commit}
use Rattle.phase_transactions.specs.declared.{asked.Viewed.{Viewed}, deeds.Deeds.{Deeds}, taken.Begun.{Begun}}
use Rattle.phase_transactions.specs.declared.taken.{BegunOne.{BegunOne}, Taken.{Taken}}
use Rattle.phase_transactions.specs.inner.Begun.{Step, begun_of, CanView, HasBegun, MayBeginOn, look_for, viewed}
use Rattle.phase_transactions.specs.inner.Deeds.{AreDeedsOf, AreGoodOn, acts_for, found_on, event_with, first_dealt, second_dealt, shown_with}
use Rattle.phase_transactions.specs.inner.Homes.{AreHomesOf}
use Rattle.phase_transactions.specs.inner.Takens.{each_once, footprint_of, held_in, numbers_of, is_one_of, dealt, line_among}
use Rattle.phase_transactions.specs.inner.Asking.{homes_viewed, view_request}
use Rattle.phase_transactions.specs.declared.asked.Viewed.TheVariants as asks

-- the home of the object that is viewed
record IsOnlyHome (hots : List (Object × Hot)) (shards : ℕ) (homes : Homes) (object : Object) (h : Home) : Type 0 where
  pub at : IsHomeOf hots shards object h
  pub cold : is_hot (hot_objects hots) object ≡ false
  pub only : (n : ℕ) → shard_at h ≡ Some n → footprint_of homes ≡ n ∷ []

item_only : (hots : List (Object × Hot)) (shards : ℕ) (homes : Homes) (object : Object) → IsHomeOf hots shards object homes.item → homes.other ≡ home.Nowhere → is_hot (hot_objects hots) object ≡ false → IsOnlyHome hots shards homes object homes.item
item_only hots shards homes object at none cold = record { at = at; cold = cold; only = λ n is. (λ i. each_once (is i) (shard_at (none i))) }

other_only : (hots : List (Object × Hot)) (shards : ℕ) (homes : Homes) (object : Object) → homes.item ≡ home.Nowhere → IsHomeOf hots shards object homes.other → is_hot (hot_objects hots) object ≡ false → IsOnlyHome hots shards homes object homes.other
other_only hots shards homes object none at cold = record { at = at; cold = cold; only = λ n is. (λ i. each_once (shard_at (none i)) (is i)) }

only_home : (w : WorkerState) (shards : ℕ) (request : Request) (homes : Homes) (object : Object) → viewed request ≡ Some object → is_put_off (hot_objects w.slices) request ≡ false → AreHomesOf w shards request homes
    → (h : Home) × IsOnlyHome w.slices shards homes object h
only_home w shards (ViewItem item) homes object is goes are = (homes.item, subst (λ o. IsOnlyHome w.slices shards homes o homes.item) (same_Some (Item item) object is) (item_only w.slices shards homes (Item item) are.0 are.1 (no_other _ goes)))
only_home w shards (ViewBids item) homes object is goes are = (homes.item, subst (λ o. IsOnlyHome w.slices shards homes o homes.item) (same_Some (Item item) object is) (item_only w.slices shards homes (Item item) are.0 are.1 (no_other _ goes)))
only_home w shards (ViewCategory category) homes object is goes are =
    (homes.other, subst (λ o. IsOnlyHome w.slices shards homes o homes.other) (same_Some (Category category) object is) (other_only w.slices shards homes (Category category) are.0 are.1 (no_other _ goes)))
only_home w shards (ViewUser user) homes object is goes are =
    (homes.other, subst (λ o. IsOnlyHome w.slices shards homes o homes.other) (same_Some (User user) object is) (other_only w.slices shards homes (User user) are.0 are.1 (no_other _ goes)))
only_home w shards request homes object is goes are = absurd (cc)

shard_cold : (hots : List (Object × Hot)) (shards : ℕ) (object : Object) (h : Home) → IsHomeOf hots shards object h → is_hot (hot_objects hots) object ≡ false → (n : ℕ) × (shard_at h ≡ Some n)
shard_cold hots shards object home.Nowhere at cold = absurd at
shard_cold hots shards object (home.Slice place) at cold = absurd (true≢false (sym at.1 ∙ cold))
shard_cold hots shards object (home.Shard shard) at cold = (shard, refl)

-- what a view asks for is a view
is_viewed : (viewed : Viewed) → is_view (view_request viewed) ≡ true
is_viewed (asks.Item item) = refl
is_viewed (asks.Bids item) = refl
is_viewed (asks.Category category) = refl
is_viewed (asks.User user) = refl

pub asks_view : {request : Request} (viewed : Viewed) → request ≡ view_request viewed → is_view request ≡ true
asks_view viewed is = ap is_view is ∙ is_viewed viewed

-- a view shows one object
pub shows_one : (request : Request) → is_view request ≡ true → (object : Object) × (viewed request ≡ Some object)
shows_one (ViewItem item) view = (Item item, refl)
shows_one (ViewBids item) view = (Item item, refl)
shows_one (ViewCategory category) view = (Category category, refl)
shows_one (ViewUser user) view = (User user, refl)
shows_one request view = absurd (false≢true view)

-- the acts of a view are its look
view_acts : (worker : ℕ) (request : Request) (reply : Reply) → is_view request ≡ true → acts_for worker None request reply ≡ event_with None reply (Look (look_for request)) ∷ []
view_acts worker (ViewItem item) reply view = refl
view_acts worker (ViewBids item) reply view = refl
view_acts worker (ViewCategory category) reply view = refl
view_acts worker (ViewUser user) reply view = refl
view_acts worker request reply view = absurd (false≢true view)

view_about : (request : Request) (reply : Reply) (object : Object) → viewed request ≡ Some object → target (event_with None reply (Look (look_for request))) ≡ Some object
view_about (ViewItem item) reply object is = is
view_about (ViewBids item) reply object is = is
view_about (ViewCategory category) reply object is = is
view_about (ViewUser user) reply object is = is
view_about request reply object is = absurd (cc)

-- a look that shows what is there is good, and so is one at nothing
look_good : (a b : Option ℕ) (reply : Reply) (looks_at : LookedAt) (held : List HeldState) → AllByRecursion (λ (h : HeldState). IsTrueOf (contents h.shard) (shown_with None reply looks_at)) held
    → AllByRecursion (AreGoodOn a b (event_with None reply (Look looks_at)) (event.Look shown.Nothing)) held
look_good a b reply looks_at [] all = tt
look_good a b reply looks_at (h ∷ held) all =
    (record { first = λ is. (tt, all.0); second = λ is. (tt, tt); after = λ is also. (tt, tt) }, look_good a b reply looks_at held all.1)

-- and no slice has its operation
pub view_entered : (w : WorkerState) (number index : ℕ) (request : Request) (reply : Reply) → is_view request ≡ true → with_entry w number index request reply ≡ after_commit w number index request reply
view_entered w number index (ViewItem item) reply view = refl
view_entered w number index (ViewBids item) reply view = refl
view_entered w number index (ViewCategory category) reply view = refl
view_entered w number index (ViewUser user) reply view = refl
view_entered w number index request reply view = absurd (false≢true view)

-- a view may begin over the shard in which its object lies
cold_at : (hots : List (Object × Hot)) (shards shard : ℕ) (a object : Object) → Some a ≡ Some object → is_hot (hot_objects hots) a ≡ false
    → ((some : List (Object × Hot)) → is_hot (hot_objects some) object ≡ false → IsHomeOf some shards object (home.Shard shard)) → IsHomeOf hots shards a (home.Shard shard)
cold_at hots shards shard a object is cold at =
    let same : a ≡ object = same_Some a object is in
    subst (λ o. IsHomeOf hots shards o (home.Shard shard)) (sym same) (at hots (subst (λ o. is_hot (hot_objects hots) o ≡ false) same cold))

pub view_begins : (w : WorkerState) (shards : ℕ) (v : Viewed) (shard : ℕ) (object : Object) → viewed (view_request v) ≡ Some object → number_refusal w.opening (view_request v) ≡ None → is_put_off (hot_objects w.slices) (view_request v) ≡ false
    → ((hots : List (Object × Hot)) → is_hot (hot_objects hots) object ≡ false → IsHomeOf hots shards object (home.Shard shard)) → MayBeginOn shards w (view_request v) (homes_viewed v shard) shard
view_begins w shards (asks.Item item) shard object is allowed goes at =
    let here = cold_at w.slices shards shard (Item item) object is (no_other _ goes) at in record {
      may = record { allowed = allowed; goes = goes; homes_are = (here, refl); asked = λ t. asked w shards (ViewItem item) _ allowed refl t ∙ asks_one shards w.slices (Item item) (home.Shard shard) here t };
      only = refl;
    }
view_begins w shards (asks.Bids item) shard object is allowed goes at =
    let here = cold_at w.slices shards shard (Item item) object is (no_other _ goes) at in record {
      may = record { allowed = allowed; goes = goes; homes_are = (here, refl); asked = λ t. asked w shards (ViewBids item) _ allowed refl t ∙ asks_one shards w.slices (Item item) (home.Shard shard) here t };
      only = refl;
    }
view_begins w shards (asks.Category category) shard object is allowed goes at =
    let here = cold_at w.slices shards shard (Category category) object is (no_other _ goes) at in record {
      may = record { allowed = allowed; goes = goes; homes_are = (refl, here); asked = λ t. asked w shards (ViewCategory category) _ allowed refl t ∙ asks_other shards w.slices (Category category) (home.Shard shard) here t };
      only = refl;
    }
view_begins w shards (asks.User user) shard object is allowed goes at =
    let here = cold_at w.slices shards shard (User user) object is (no_other _ goes) at in record {
      may = record { allowed = allowed; goes = goes; homes_are = (refl, here); asked = λ t. asked w shards (ViewUser user) _ allowed refl t ∙ asks_other shards w.slices (User user) (home.Shard shard) here t };
      only = refl;
    }

-- its one shard can show what it asks for
pub can_view : {N : Type 0} (step : Step) (w : WorkerState) (request : Request) (one : BegunOne N) → HasBegun step w request (begun_of one) → is_view request ≡ true → HaveOpening step.initial w.opening → CanView one.held.shard request
can_view step w request one begun view openings =
    let held = one.held in let taken = begun.taken.taken.0 in
    let shown = shows_one request view in let object = shown.0 in
    let its_home = only_home w (length step.initial) request step.homes object shown.1 begun.may.goes begun.may.homes_are in
    let its_shard = shard_cold w.slices (length step.initial) object its_home.0 its_home.1.at its_home.1.cold in
    let numbers : held.number ∷ [] ≡ its_shard.0 ∷ [] = begun.taken.numbers ∙ its_home.1.only its_shard.0 its_shard.1 in
    let number : held.number ≡ its_shard.0 = (cc) in
    let lies : LiesIn held.shard object =
    ap (shard_of object) taken.shards_is ∙ sym (home_number w.slices (length step.initial) its_shard.0 object its_home.0 its_home.1.at its_shard.1) ∙ sym number ∙ sym taken.number_is in
    record {
      here = λ other is. subst (LiesIn held.shard) (same_Some object other (sym shown.1 ∙ is)) lies;
      allowed = subst (λ start. number_refusal start request ≡ None) (sym (taken.opening_is ∙ openings held.number taken.known)) begun.may.allowed;
    }

-- its shard can go back with a line
pub one_held : {N : Type 0} {step : Step} {w : WorkerState} {request : Request} (one : BegunOne N) → HasBegun step w request (begun_of one) → IsHeldFor step.initial w.key one.held one.number
one_held {N} {step} {w} {request} one begun =
    let numbered : one.number ≡ suc (max w.clock (max (clock one.held.shard) 0)) = begun.numbered in
    record {
      holder = begun.held.holds one.held.number ∙ ap (λ b. b || false) (eq-eqb one.held.number one.held.number refl);
      taken = begun.taken.taken.0.state_is;
      later = omega (arith, numbered);
      within = begun.within;
    }

module _ {N : Type 0} (step : Step) (w : WorkerState) (request : Request) (b : Begun N) (begun : HasBegun step w request b) (view : is_view request ≡ true) where
  abbrev initial : List ShardState
  initial = step.initial

  abbrev key : KeyState
  key = step.key

  abbrev homes : Homes
  homes = step.homes

  abbrev took : Taken N
  took = b.taken

  abbrev number : ℕ
  number = b.number

  abbrev object : Object
  object = (shows_one request view).0

  abbrev its_home : (h : Home) × IsOnlyHome w.slices (length initial) homes object h
  its_home = only_home w (length initial) request homes object (shows_one request view).1 begun.may.goes begun.may.homes_are

  abbrev h : Home
  h = its_home.0

  abbrev its_shard : (n : ℕ) × (shard_at h ≡ Some n)
  its_shard = shard_cold w.slices (length initial) object h its_home.1.at its_home.1.cold

  abbrev n : ℕ
  n = its_shard.0

  -- what it did is a commit
  view_answered : (index : ℕ) (reply : Reply) (found : ReadSet) → ((counters : Counters) (worker : ℕ) → IsReplyTo counters worker request reply) → IsAnswered (setting_of w (length initial)) w.counters (txn_of w number request index reply found)
  view_answered index reply found answers =
      let z = setting_of w (length initial) in
      let txn = txn_of w number request index reply found in
      let none : reason_seen z txn ≡ None = ap (λ b. cond b (number_refusal w.opening request) (refusal_seen z txn)) view ∙ begun.may.allowed in
      record {
        answered = subst (λ refused. MatchOption refused (IsReplyTo w.counters w.journal.worker request reply) (λ reason. reply ≡ Refused reason)) (sym none) (answers w.counters w.journal.worker);
        not_put_off = ap (λ objects. is_put_off objects request) (same_objects_of w.slices) ∙ begun.may.goes;
      }

  view_owed : (reply : Reply) → AreDeedsOf w.slices (length initial) (acts_for w.journal.worker None request reply) (event_with None reply (Look (look_for request))) (event.Look shown.Nothing) h home.Nowhere
  view_owed reply t =
      let owed = event_with None reply (Look (look_for request)) in
      ap (λ acts. padded (done_on t (length initial) (hot_objects w.slices) acts)) (view_acts w.journal.worker request reply view)
      ∙ one_owed w.slices (length initial) t owed h (done_is w.slices (length initial) t object h its_home.1.at owed (view_about request reply object (shows_one request view).1))

  pub view_commits : (new : WorkerState) (index : ℕ) (reply : Reply) (looks_at : LookedAt) → looks_at ≡ look_for request → ((counters : Counters) (worker : ℕ) → IsReplyTo counters worker request reply)
      → AllByRecursion (λ (held : HeldState). IsTrueOf (contents held.shard) (shown_with None reply looks_at)) (held_in took)
      → HasPutAll initial w.key new.key (is_one_of (numbers_of (held_in took))) (line_among number index (held_in took) (dealt took (Look looks_at ∷ Look look.Nothing ∷ [])))
      → new ≡ record (after_commit w number index request reply) { key = new.key } → HasCommittedSome initial (record w { key = key }) new request index
  view_commits new index reply looks_at asked answers shows put committed =
      let deeds : Deeds = record { first = Look looks_at; second = Look look.Nothing; home = h; other = home.Nowhere } in
      let lines = λ (a : Option ℕ). line_among number index (held_in took) (dealt took (first_dealt (Look looks_at) (Look look.Nothing) a None ∷ second_dealt (Look looks_at) (Look look.Nothing) a None ∷ [])) in
      let owed = λ (l : LookedAt). AreDeedsOf w.slices (length initial) (acts_for w.journal.worker None request reply) (event_with None reply (Look l)) (event.Look shown.Nothing) h home.Nowhere in (
        reply,
        begun_commits step w request b begun new index reply None deeds (ap (λ a. each_once a None) its_shard.1 ∙ sym (its_home.1.only n its_shard.1)) (subst owed (sym asked) (view_owed reply))
            (look_good (shard_at h) None reply looks_at (held_in took) shows) (view_answered index reply (found_on None took) answers)
            (subst (λ a. HasPutAll initial w.key new.key (is_one_of (numbers_of (held_in took))) (lines a)) (sym its_shard.1) put) committed,
      )
