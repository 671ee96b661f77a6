-- Each slice can be merged in its turn, whatever the order.
use Rattle.std.proofs.Common.{◌≡◌, ℕ, suc, ◌+◌, ◌*◌, ◌<◌, ◌≤◌, ℤ, ◌+ℤ◌, Bool, true, false, cond, List, [], ◌∷◌, length, Option, IsSome, refl, sym, subst, ◌∙◌, arith, unsigned_abs}
use Rattle.std.proofs.Math.ListN.{length-set}
use Rattle.std.proofs.lemmas.Bool.{false≢true, or_left, or_parts, or_right}
use Rattle.std.proofs.lemmas.Int.{ints, fits_signed_from_abs}
use Rattle.std.proofs.lemmas.List.Elements.{All-from_recursion, recursion_from_All}
use Rattle.std.proofs.lemmas.List.Sorted.{All-permutation, sum_by-IsPermutation}
use Rattle.std.{proofs.lemmas.List.Sums.{sum_by-append, sum_by-cons}, specs.Int.{w64}}
use Rattle.std.specs.{List.{Sorted.{IsPermutation}, AllByRecursion, IsDistinct}, Prelude.{count_by}}
use Rattle.phase_laws.{proofs.ListLemmas.{all-append}, specs.Replay.{SawInTurn}}
use Rattle.auction_rows.proofs.RequestLemmas.{same_object-true, same_object-own}
use Rattle.auction_rows.specs.{Book.{Book}, Footprint.{is_hot}, Requests.{same_object, shard_of}}
use Rattle.auction_rows.specs.declared.requests.Object.TheVariants.{Item, User, Category}
use Rattle.auction_rows.specs.declared.requests.{Facts.Facts, Object.Object}
use Rattle.item_shards.specs.{Values.{Value, value}, declared.shard.slices.Slice.{Slice}}
use Rattle.item_shards.specs.declared.shard.slices.Slice.TheVariants as slice
use Rattle.shard_boxes.specs.States.{ShardState, state_at}
use Rattle.shard_boxes.specs.declared.limits.TheConstants.{MOST_COMMITS, MOST_KEPT}
use Rattle.phase_transactions.specs.Workers.{WorkerState}
use Rattle.worker_slices.specs.Slicing.{hot_objects, slices_in, slices_of, slice_of, HasAtMost, HaveAtMost}
use Rattle.closing_laws.proofs.{MergeLemmas.{value_merged}, SliceLemmas.{apart_of}}
use Rattle.closing_laws.specs.Merging.{merged_with, with_slice, after_merge, slices_left, CanMerge}
use Rattle.closing_laws.specs.Phases.{value_on}

-- A slice is of its object's kind.
abbrev pub IsOfKind : Object → Slice → Type 0
IsOfKind (Item id) (slice.Item s) = Unit {0}
IsOfKind (User user) (slice.User s) = Unit {0}
IsOfKind (Category category) (slice.Category s) = Unit {0}
IsOfKind object s = ⊥

-- a slice to be merged: of a hot object, of its kind, and of few operations
pub record IsGood (hot : List Object) (pair : Object × Slice) : Type 0 where
  pub is_hot : is_hot hot pair.0 ≡ true
  pub kind : IsOfKind pair.0 pair.1
  pub few : HasAtMost MOST_COMMITS pair.1

abbrev is_of : Object → Object × Slice → Bool
is_of object pair = same_object pair.0 object

-- how many of the slices are an object's
abbrev pub how_many : Object → List (Object × Slice) → ℕ
how_many object pairs = count_by (is_of object) pairs

-- an object's value leaves room for so many slices
abbrev pub HasRoomFor : Object → Value → ℕ → Type 0
HasRoomFor (Item id) v n = IsSome v.facts × (v.bids.bids + MOST_COMMITS * n ≤ 2 * MOST_KEPT)
HasRoomFor (User user) v n = (v.comments.comments + MOST_COMMITS * n ≤ 2 * MOST_KEPT) × (unsigned_abs v.comments.rating + 5 * MOST_COMMITS * n ≤ 10 * MOST_KEPT)
HasRoomFor (Category category) v n = Unit {0}

room_kept : (object : Object) (v : Value) (n m : ℕ) → n ≡ m → HasRoomFor object v n → HasRoomFor object v m
room_kept object v n m same room = subst (HasRoomFor object v) same room

sum_near : (y z : ℤ) → unsigned_abs (y +ℤ z) ≤ unsigned_abs y + unsigned_abs z
sum_near y z = omega (arith, ints)

-- after its slice is merged there is room for one less
room_after : (object : Object) (s : Slice) (v : Value) (n : ℕ) → IsOfKind object s → HasAtMost MOST_COMMITS s → HasRoomFor object v (suc n) → HasRoomFor object (merged_with s v) n
room_after (Item id) (slice.Item s) v n kind few room = (room.0, omega (arith, room.1, few))
room_after (User user) (slice.User s) v n kind few room = (omega (arith, room.0, few.0), omega (arith, room.1, few.1, sum_near v.comments.rating s.rating))
room_after (Category category) (slice.Category s) v n kind few room = tt
room_after object s v n kind few room = absurd kind

can_merge : (states : List ShardState) (object : Object) (s : Slice) (n : ℕ) → IsOfKind object s → HasAtMost MOST_COMMITS s → HasRoomFor object (value_on states object) (suc n) → CanMerge states (object, s)
can_merge states (Item id) (slice.Item s) n kind few room = (room.0, omega (arith, room.1, few))
can_merge states (User user) (slice.User s) n kind few room =
    let v = value_on states (User user) in
    (fits_signed_from_abs w64 (v.comments.rating +ℤ s.rating) (omega (arith, room.1, few.1, sum_near v.comments.rating s.rating)), omega (arith, room.0, few.0))
can_merge states (Category category) (slice.Category s) n kind few room = tt
can_merge states object s n kind few room = absurd kind

-- how many are left, after the first
first_counts : (b : Bool) (n : ℕ) → b ≡ true → cond b 1 0 + n ≡ suc n
first_counts true n is = omega arith
first_counts false n is = absurd (false≢true is)

first_counts_not : (b : Bool) (n : ℕ) → b ≡ false → cond b 1 0 + n ≡ n
first_counts_not true n is = absurd (false≢true (sym is))
first_counts_not false n is = omega arith

one_counts : (object : Object) (pair : Object × Slice) (pairs : List (Object × Slice)) → same_object pair.0 object ≡ true → how_many object (pair ∷ pairs) ≡ suc (how_many object pairs)
one_counts object pair pairs is = sum_by-cons (λ p. cond (is_of object p) 1 0) pair pairs ∙ first_counts (same_object pair.0 object) (how_many object pairs) is

other_counts : (object : Object) (pair : Object × Slice) (pairs : List (Object × Slice)) → same_object pair.0 object ≡ false → how_many object (pair ∷ pairs) ≡ how_many object pairs
other_counts object pair pairs is = sum_by-cons (λ p. cond (is_of object p) 1 0) pair pairs ∙ first_counts_not (same_object pair.0 object) (how_many object pairs) is

room_next : (object : Object) (pair : Object × Slice) (pairs : List (Object × Slice)) (v : Value) (b : Bool) → same_object pair.0 object ≡ b → IsOfKind pair.0 pair.1 → HasAtMost MOST_COMMITS pair.1
    → HasRoomFor object v (how_many object (pair ∷ pairs)) → HasRoomFor object (cond b (merged_with pair.1 v) v) (how_many object pairs)
room_next object pair pairs v true same kind few room =
    room_after object pair.1 v (how_many object pairs) (subst (λ (o : Object). IsOfKind o pair.1) (same_object-true pair.0 object same) kind) few
    (room_kept object v _ _ (one_counts object pair pairs same) room)
room_next object pair pairs v false same kind few room = room_kept object v _ _ (other_counts object pair pairs same) room

in_turn : (hot : List Object) (pairs : List (Object × Slice)) (states : List ShardState) → 0 < length states → AllByRecursion (IsGood hot) pairs
    → ((object : Object) → is_hot hot object ≡ true → HasRoomFor object (value_on states object) (how_many object pairs)) → SawInTurn CanMerge after_merge states pairs
in_turn hot [] states some good room = tt
in_turn hot (pair ∷ pairs) states some good room = (
  can_merge states pair.0 pair.1 (how_many pair.0 pairs) good.0.kind good.0.few
      (room_kept pair.0 (value_on states pair.0) _ _ (one_counts pair.0 pair pairs (same_object-own pair.0)) (room pair.0 good.0.is_hot)),
  in_turn hot pairs (after_merge states pair)
      (subst (λ n. 0 < n) (sym (length-set states (shard_of pair.0 (length states)) (with_slice (state_at states (shard_of pair.0 (length states))) pair))) some) good.1
      (λ object is. subst (λ (v : Value). HasRoomFor object v (how_many object pairs)) (sym (value_merged states object pair some))
      (room_next object pair pairs (value_on states object) (same_object pair.0 object) refl good.0.kind good.0.few (room object is))),
)

-- Of each worker an object has at most one slice.

none_cold : (stocks : List (Object × Option (Facts × ℕ))) (rows : Book) (object : Object) → is_hot (hot_objects stocks) object ≡ false → how_many object (slices_in (slices_of stocks rows)) ≡ 0
none_cold [] rows object cold = refl
none_cold (stock ∷ stocks) rows object cold =
    let parts = or_parts (same_object stock.0 object) (is_hot (hot_objects stocks) object) cold in
    other_counts object (stock.0, slice_of stock.0 (value rows stock.0)) (slices_in (slices_of stocks rows)) parts.0 ∙ none_cold stocks rows object parts.1

at_most_one : (stocks : List (Object × Option (Facts × ℕ))) (rows : Book) (object : Object) → IsDistinct same_object (hot_objects stocks) → how_many object (slices_in (slices_of stocks rows)) ≤ 1
unfolding IsDistinct
at_most_one [] rows object distinct = omega arith
at_most_one (stock ∷ stocks) rows object distinct = at (same_object stock.0 object) refl (at_most_one stocks rows object distinct.1) where
  at : (b : Bool) → same_object stock.0 object ≡ b → how_many object (slices_in (slices_of stocks rows)) ≤ 1 → how_many object (slices_in (slices_of (stock ∷ stocks) rows)) ≤ 1
  at true same rest =
      let others : how_many object (slices_in (slices_of stocks rows)) ≡ 0 = none_cold stocks rows object
      (subst (λ (o : Object). is_hot (hot_objects stocks) o ≡ false) (same_object-true stock.0 object same) (apart_of stock.0 (hot_objects stocks) distinct.0)) in
      omega (arith, others, one_counts object (stock.0, slice_of stock.0 (value rows stock.0)) (slices_in (slices_of stocks rows)) same)
  at false same rest = omega (arith, rest, other_counts object (stock.0, slice_of stock.0 (value rows stock.0)) (slices_in (slices_of stocks rows)) same)

kind_of : (object : Object) (v : Value) → IsOfKind object (slice_of object v)
kind_of (Item id) v = tt
kind_of (User user) v = tt
kind_of (Category category) v = tt

good_from : (hot : List Object) (stocks : List (Object × Option (Facts × ℕ))) (rows : Book) → ((object : Object) → is_hot (hot_objects stocks) object ≡ true → is_hot hot object ≡ true)
    → HaveAtMost MOST_COMMITS (slices_of stocks rows) → AllByRecursion (IsGood hot) (slices_in (slices_of stocks rows))
good_from hot [] rows among few = tt
good_from hot (stock ∷ stocks) rows among few = (
  record {
    is_hot = among stock.0 (or_left (same_object stock.0 stock.0) (is_hot (hot_objects stocks) stock.0) (same_object-own stock.0));
    kind = kind_of stock.0 (value rows stock.0);
    few = few.0;
  },
  good_from hot stocks rows (λ object is. among object (or_right (same_object stock.0 object) (is_hot (hot_objects stocks) object) is)) few.1,
)

module _ (stocks : List (Object × Option (Facts × ℕ))) (rows_by : WorkerState → Book) where
  pub all_once : (receipts : List WorkerState) → AllByRecursion (λ receipt. receipt.slices ≡ slices_of stocks (rows_by receipt)) receipts → IsDistinct same_object (hot_objects stocks)
      → (object : Object) → how_many object (slices_left receipts) ≤ length receipts
  all_once [] sliced distinct object = omega arith
  all_once (receipt ∷ receipts) sliced distinct object =
      let first = subst (λ slices. how_many object (slices_in slices) ≤ 1) (sym sliced.0) (at_most_one stocks (rows_by receipt) object distinct) in
      omega (
        arith,
        first,
        all_once receipts sliced.1 distinct object,
        sum_by-append (λ p. cond (is_of object p) 1 0) (slices_in receipt.slices) (slices_left receipts),
      )

  pub all_good : (receipts : List WorkerState) → AllByRecursion (λ receipt. receipt.slices ≡ slices_of stocks (rows_by receipt)) receipts
      → AllByRecursion (λ receipt. HaveAtMost MOST_COMMITS receipt.slices) receipts → AllByRecursion (IsGood (hot_objects stocks)) (slices_left receipts)
  all_good [] sliced few = tt
  all_good (receipt ∷ receipts) sliced few =
      all-append (IsGood (hot_objects stocks)) (slices_in receipt.slices) (slices_left receipts)
      (subst (λ slices. AllByRecursion (IsGood (hot_objects stocks)) (slices_in slices)) (sym sliced.0)
      (good_from (hot_objects stocks) stocks (rows_by receipt) (λ object is. is) (subst (HaveAtMost MOST_COMMITS) sliced.0 few.0)))
      (all_good receipts sliced.1 few.1)

-- In any order each slice can be merged in its turn.
pub all_in_turn : (hot : List Object) (pairs order : List (Object × Slice)) (states : List ShardState) → 0 < length states → IsPermutation pairs order → AllByRecursion (IsGood hot) pairs
    → ((object : Object) → is_hot hot object ≡ true → HasRoomFor object (value_on states object) (how_many object pairs)) → SawInTurn CanMerge after_merge states order
all_in_turn hot pairs order states some moved good room =
    in_turn hot order states some (recursion_from_All (IsGood hot) order (All-permutation (IsGood hot) pairs order moved (All-from_recursion (IsGood hot) pairs good)))
    (λ object is. room_kept object (value_on states object) _ _ (sym (sum_by-IsPermutation (λ p. cond (is_of object p) 1 0) pairs order moved)) (room object is))
