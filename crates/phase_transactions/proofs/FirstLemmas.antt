-- The first shard that was taken: the one in which the item of a request lies.
use Rattle.std.proofs.Common.{◌≡◌, ℕ, suc, max, ◌<◌, ◌≤◌, List, [], ◌∷◌, length, map, Option, Some, refl, sym, ap, subst, ◌∙◌, arith, inl, inr}
use Rattle.std.specs.List.{AllByRecursion}
use Rattle.phase_laws.specs.Numbers.{greatest_by}
use Rattle.auction_rows.specs.{Requests.{shard_of}, declared.requests.Object.TheVariants.{Item}}
use Rattle.auction_rows.specs.declared.requests.{ItemId.ItemId, Facts.Facts, Object.Object, Request.Request}
use Rattle.item_shards.specs.CommitNumbers.{last_number}
use Rattle.item_shards.specs.{ShardContents.{HasItemRoom, LiesIn, clock, contents}, Values.{stock}}
use Rattle.shard_boxes.specs.{Helds.{HeldState}, Keys.{KeyState, seen_at}, Lines.{IsShardHistory}}
use Rattle.shard_boxes.specs.States.{ShardState, state_of}
use Rattle.worker_slices.specs.{Homes.{IsHomeOf, shard_at}, declared.homes.Home.{Home}}
use Rattle.worker_slices.specs.declared.slices.Hot.{Hot}
use Rattle.phase_transactions.proofs.GoodLemmas.{home_number}
use Rattle.phase_transactions.proofs.WrittenLemmas.{LieInOne, in_one, in_two}
use Rattle.phase_transactions.specs.{Workers.{WorkerState}, declared.taken.Begun.{Begun}}
use Rattle.phase_transactions.specs.declared.taken.Taken.{Taken}
use Rattle.phase_transactions.specs.inner.Begun.{HasBegun, Step, FirstHas, FirstHasRoom, states_in}
use Rattle.phase_transactions.specs.inner.{Deeds.{stock_on}, HeldShards.{IsAsTaken}}
use Rattle.phase_transactions.specs.inner.Takens.{each_once, held_in, numbers_of, is_one_of, AreApart}
use Rattle.phase_transactions.specs.declared.taken.Taken.TheVariants as taken

-- of the shards that were taken for it the first is that in which it lies
number_is : (n : ℕ) (a b : Option ℕ) (t : ℕ) → LieInOne n a b → a ≡ Some t → n ≡ t
number_is n a b t lies at = elim lies [ inl l ↦ cc (l.0, at) | inr more ↦ elim more [ inl l ↦ absurd (cc (l.0, at)) | inr l ↦ cc (l.0, at) ] ]

module _ {N : Type 0} (initial : List ShardState) (workers : ℕ) (key : KeyState) (hots : List (Object × Hot)) (took : Taken N) (h k : Home) where
  lies_first : (held : HeldState) (item : ItemId) (t : ℕ) → IsHomeOf hots (length initial) (Item item) h → shard_at h ≡ Some t → IsAsTaken initial workers key held → held.number ≡ t → LiesIn held.shard (Item item)
  lies_first held item t at is its number =
      ap (shard_of (Item item)) its.shards_is ∙ sym (home_number hots (length initial) t (Item item) h at is) ∙ sym number ∙ sym its.number_is

  pub first_has : (item : ItemId) (t : ℕ) → IsHomeOf hots (length initial) (Item item) h → shard_at h ≡ Some t → numbers_of (held_in took) ≡ each_once (shard_at h) (shard_at k) → AllByRecursion (IsAsTaken initial workers key) (held_in took)
      → FirstHas took item
  first_has item t at is numbers all = go took numbers all where
    go : (its : Taken N) → numbers_of (held_in its) ≡ each_once (shard_at h) (shard_at k) → AllByRecursion (IsAsTaken initial workers key) (held_in its) → FirstHas its item
    go taken.Nothing numbers all = tt
    go (taken.One one) numbers all = lies_first one item t at is all.0 (number_is one.number (shard_at h) (shard_at k) t (in_one one.number (shard_at h) (shard_at k) numbers) is)
    go (taken.Two one other) numbers all = let lies = in_two one.number other.number (shard_at h) (shard_at k) numbers in lies_first one item t at is all.0 (cc (lies.0, is))

-- so what the first has is what the item's shard has
not_second : (one other : ℕ) (a b : Option ℕ) → one ∷ other ∷ [] ≡ each_once a b → a ≡ Some other → ⊥
not_second one other a b numbers at = let lies = in_two one other a b numbers in lies.2 (cc (lies.0, at))

pub found_there : {N : Type 0} (took : Taken N) (a b : Option ℕ) (item : ItemId) (seen : Option (Facts × ℕ)) → numbers_of (held_in took) ≡ each_once a b → ((t : ℕ) → a ≡ Some t → seen ≡ stock_on took item)
    → AllByRecursion (λ (h : HeldState). a ≡ Some h.number → seen ≡ stock (contents h.shard (Item item))) (held_in took)
found_there taken.Nothing a b item seen numbers is = tt
found_there (taken.One one) a b item seen numbers is = (λ at. is one.number at, tt)
found_there (taken.Two one other) a b item seen numbers is = (λ at. is one.number at, (λ at. absurd (not_second one.number other.number a b numbers at), tt))

pub room_there : {N : Type 0} (took : Taken N) (a b : Option ℕ) (item : ItemId) → numbers_of (held_in took) ≡ each_once a b → FirstHasRoom took item
    → AllByRecursion (λ (h : HeldState). a ≡ Some h.number → HasItemRoom h.shard item) (held_in took)
room_there taken.Nothing a b item numbers room = tt
room_there (taken.One one) a b item numbers room = (λ at. room, tt)
room_there (taken.Two one other) a b item numbers room = (λ at. room, (λ at. absurd (not_second one.number other.number a b numbers at), tt))

-- the number follows the clocks
pub clocks_below : {N : Type 0} (took : Taken N) (own number : ℕ) → number ≡ suc (max own (greatest_by (λ (h : HeldState). clock h.shard) (held_in took))) → AllByRecursion (λ (h : HeldState). clock h.shard < number) (held_in took)
clocks_below taken.Nothing own number is = tt
clocks_below (taken.One one) own number is = (omega (arith, is), tt)
clocks_below (taken.Two one other) own number is = (omega (arith, is), (omega (arith, is), tt))

-- shards that show what they showed
module _ (initial : List ShardState) (workers : ℕ) (key : KeyState) where
  as_before : (h k : HeldState) → ◌≡◌ {A = ℕ × ShardState} (k.number, state_of k.shard) (h.number, state_of h.shard) → IsAsTaken initial workers key h → IsAsTaken initial workers key k
  as_before h k same is = subst (λ (p : ℕ × ShardState). IsShardHistory initial workers p.0 (seen_at key p.0) p.1) (sym same) is

  pub taken_before : {N : Type 0} (took now : Taken N) → states_in now ≡ states_in took → AllByRecursion (IsAsTaken initial workers key) (held_in took) → AllByRecursion (IsAsTaken initial workers key) (held_in now)
  taken_before taken.Nothing taken.Nothing same all = tt
  taken_before (taken.One h) (taken.One one) same all = (as_before h one (cc) all.0, tt)
  taken_before (taken.Two h k) (taken.Two one other) same all = (as_before h one (cc) all.0, (as_before k other (cc) all.1.0, tt))
  taken_before took now same all = absurd (cc)

-- what is read of their states
by_states : {N : Type 0} {A : Type 0} (f : ℕ → ShardState → A) (took : Taken N) → map (λ (h : HeldState). f h.number (state_of h.shard)) (held_in took) ≡ map (λ (p : ℕ × ShardState). f p.0 p.1) (states_in took)
by_states f taken.Nothing = refl
by_states f took = refl

pub numbers_before : {N : Type 0} (took now : Taken N) → states_in now ≡ states_in took → numbers_of (held_in now) ≡ numbers_of (held_in took)
numbers_before took now same = by_states (λ n s. n) now ∙ ap (map (λ (p : ℕ × ShardState). p.0)) same ∙ sym (by_states (λ n s. n) took)

greatest_by_states : {N : Type 0} (took : Taken N) → greatest_by (λ (h : HeldState). clock h.shard) (held_in took) ≡ greatest_by (λ (p : ℕ × ShardState). p.1.clock) (states_in took)
greatest_by_states taken.Nothing = refl
greatest_by_states took = refl

pub greatest_before : {N : Type 0} (took now : Taken N) → states_in now ≡ states_in took → greatest_by (λ (h : HeldState). clock h.shard) (held_in now) ≡ greatest_by (λ (h : HeldState). clock h.shard) (held_in took)
greatest_before took now same = greatest_by_states now ∙ ap (greatest_by (λ (p : ℕ × ShardState). p.1.clock)) same ∙ sym (greatest_by_states took)

known_by_numbers : (seats : ℕ) (held : List HeldState) → AllByRecursion (λ n. n < seats) (numbers_of held) → AllByRecursion (λ (h : HeldState). h.number < seats) held
known_by_numbers seats [] all = tt
known_by_numbers seats (h ∷ held) all = (all.0, known_by_numbers seats held all.1)

known_of_numbers : (seats : ℕ) (held : List HeldState) → AllByRecursion (λ (h : HeldState). h.number < seats) held → AllByRecursion (λ n. n < seats) (numbers_of held)
known_of_numbers seats [] all = tt
known_of_numbers seats (h ∷ held) all = (all.0, known_of_numbers seats held all.1)

-- a transaction that made room has begun as before
pub begun_before : {N : Type 0} {step : Step} {w : WorkerState} {request : Request} (before after : Begun N)
    → states_in after.taken ≡ states_in before.taken → after.number ≡ before.number → HasBegun step w request before → HasBegun step w request after
begun_before {N} {step} {w} {request} before after same number_is begun =
    let took = before.taken in let now = after.taken in
    let numbers = numbers_before took now same in
    let all = taken_before step.initial step.workers w.key took now same begun.taken.taken in
    let known = known_by_numbers (length w.key.seats) (held_in now) (subst (AllByRecursion (λ n. n < length w.key.seats)) (sym numbers) (known_of_numbers (length w.key.seats) (held_in took) begun.held.known)) in
    record {
      may = begun.may;
      taken = record { numbers = numbers ∙ begun.taken.numbers; known = known; taken = all; holds = begun.taken.holds; others = begun.taken.others; lines = begun.taken.lines };
      held = record {
        boxes_are = begun.held.boxes_are;
        apart = subst AreApart (sym numbers) begun.held.apart;
        known = known;
        holds = λ t. begun.held.holds t ∙ ap (λ list. is_one_of list t) (sym numbers);
        taken = all;
      };
      numbered = number_is ∙ begun.numbered ∙ ap (λ n. suc (max w.clock n)) (sym (greatest_before took now same));
      within = subst (λ n. n ≤ last_number) (sym number_is) begun.within;
    }
