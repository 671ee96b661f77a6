-- The slices of the workers merged into one value.
use Rattle.std.proofs.Common.{◌≡◌, ℕ, Bool, true, false, cond, ◌||◌, List, [], ◌∷◌, fold, Option, refl, sym, ap, subst, ◌∙◌}
use Rattle.std.proofs.lemmas.{Bool.{false≢true, or_parts}, List.Sums.{fold-append}}
use Rattle.std.specs.List.{AllByRecursion, IsDistinct}
use Rattle.phase_laws.specs.Merging.{SliceLaws}
use Rattle.auction_rows.{proofs.RequestLemmas.{same_object-true, same_objects}, specs.Book.{Book}}
use Rattle.auction_rows.specs.{Footprint.{is_hot}, Requests.{same_object}}
use Rattle.auction_rows.specs.declared.requests.{Facts.Facts, Object.Object}
use Rattle.item_shards.specs.SliceLaws.{item_laws, user_laws, category_laws}
use Rattle.item_shards.specs.Values.{Value, value}
use Rattle.item_shards.specs.declared.shard.slices.CategorySlice.{CategorySlice}
use Rattle.item_shards.specs.declared.shard.slices.{ItemSlice.{ItemSlice}, Slice.{Slice}}
use Rattle.item_shards.specs.declared.shard.slices.UserSlice.{UserSlice}
use Rattle.item_shards.specs.declared.shard.slices.Slice.TheVariants as slice
use Rattle.phase_transactions.specs.Workers.{WorkerState}
use Rattle.worker_slices.specs.Slicing.{hot_objects, slices_in, slices_of, slice_of}
use Rattle.closing_laws.specs.Merging.{merged_with, slices_left}

-- a slice that is an object's is merged into its value
abbrev pub merge_at : Object → Value → Object × Slice → Value
merge_at object v pair = cond (same_object pair.0 object) (merged_with pair.1 v) v

-- Merges commute.

changed_over : {R Op : Type 0} {IsRecord : R → Type 0} {identity : R} {apply : R → Op → R} {merge : R → R → R} → SliceLaws IsRecord identity apply merge
    → (r a b : R) → merge (merge r a) b ≡ merge (merge r b) a
changed_over {merge = merge} laws r a b = laws.merge_associative r a b ∙ ap (merge r) (laws.merge_commutative a b) ∙ sym (laws.merge_associative r b a)

merges_commute : (v : Value) (a b : Slice) → merged_with b (merged_with a v) ≡ merged_with a (merged_with b v)
merges_commute v (slice.Item a) (slice.Item b) = ap (λ (s : ItemSlice). record v { bids = s }) (changed_over item_laws v.bids a b)
merges_commute v (slice.User a) (slice.User b) = ap (λ (s : UserSlice). record v { comments = s }) (changed_over user_laws v.comments a b)
merges_commute v (slice.Category a) (slice.Category b) = ap (λ (s : CategorySlice). record v { items = s }) (changed_over category_laws v.items a b)
merges_commute v a b = refl

either_commutes : (b c : Bool) (v : Value) (x y : Slice) → cond c (merged_with y (cond b (merged_with x v) v)) (cond b (merged_with x v) v) ≡ cond b (merged_with x (cond c (merged_with y v) v)) (cond c (merged_with y v) v)
either_commutes true true v x y = merges_commute v x y
either_commutes true false v x y = refl
either_commutes false true v x y = refl
either_commutes false false v x y = refl

pub merge_at-commutes : (object : Object) (v : Value) (x y : Object × Slice) → merge_at object (merge_at object v x) y ≡ merge_at object (merge_at object v y) x
merge_at-commutes object v x y = either_commutes (same_object x.0 object) (same_object y.0 object) v x.1 y.1

-- One worker's slices have one of each hot object, and none of others.

first_if : (b : Bool) (v : Value) (x : Slice) → b ≡ false → cond b (merged_with x v) v ≡ v
first_if true v x is = absurd (false≢true (sym is))
first_if false v x is = refl

pub cold_slices : (stocks : List (Object × Option (Facts × ℕ))) (rows : Book) (object : Object) (v : Value) → is_hot (hot_objects stocks) object ≡ false
    → fold (merge_at object) v (slices_in (slices_of stocks rows)) ≡ v
cold_slices [] rows object v cold = refl
cold_slices (stock ∷ stocks) rows object v cold =
    let parts = or_parts (same_object stock.0 object) (is_hot (hot_objects stocks) object) cold in
    ap (λ u. fold (merge_at object) u (slices_in (slices_of stocks rows))) (first_if (same_object stock.0 object) v (slice_of stock.0 (value rows stock.0)) parts.0)
    ∙ cold_slices stocks rows object v parts.1

pub apart_of : (one : Object) (objects : List Object) → AllByRecursion (λ other. same_object one other ≡ false) objects → is_hot objects one ≡ false
apart_of one [] apart = refl
apart_of one (other ∷ objects) apart = at (same_object other one) refl (apart_of one objects apart.1) where
  at : (b : Bool) → same_object other one ≡ b → is_hot objects one ≡ false → (b || is_hot objects one) ≡ false
  at true same rest = absurd (false≢true (sym apart.0 ∙ (same_objects one other).1 (sym (same_object-true other one same))))
  at false same rest = rest

pub hot_slices : (stocks : List (Object × Option (Facts × ℕ))) (rows : Book) (object : Object) (v : Value) → IsDistinct same_object (hot_objects stocks) → is_hot (hot_objects stocks) object ≡ true
    → fold (merge_at object) v (slices_in (slices_of stocks rows)) ≡ merged_with (slice_of object (value rows object)) v
unfolding IsDistinct
hot_slices [] rows object v distinct hot = absurd (false≢true hot)
hot_slices (stock ∷ stocks) rows object v distinct hot =
    at (same_object stock.0 object) refl (λ is. hot_slices stocks rows object v distinct.1 is) where
      at : (b : Bool) → same_object stock.0 object ≡ b
          → (is_hot (hot_objects stocks) object ≡ true → fold (merge_at object) v (slices_in (slices_of stocks rows)) ≡ merged_with (slice_of object (value rows object)) v)
          → fold (merge_at object) (cond b (merged_with (slice_of stock.0 (value rows stock.0)) v) v) (slices_in (slices_of stocks rows)) ≡ merged_with (slice_of object (value rows object)) v
      at true same rest =
          let is = same_object-true stock.0 object same in
          cold_slices stocks rows object (merged_with (slice_of stock.0 (value rows stock.0)) v)
          (subst (λ (o : Object). is_hot (hot_objects stocks) o ≡ false) is (apart_of stock.0 (hot_objects stocks) distinct.0))
          ∙ ap (λ (o : Object). merged_with (slice_of o (value rows o)) v) is
      at false same rest = rest (subst (λ b. (b || is_hot (hot_objects stocks) object) ≡ true) same hot)

-- The slices of all workers, each made by its rows.
module _ (stocks : List (Object × Option (Facts × ℕ))) (rows_by : WorkerState → Book) (object : Object) where
  abbrev AreSliced : List WorkerState → Type 0
  AreSliced receipts = AllByRecursion (λ receipt. receipt.slices ≡ slices_of stocks (rows_by receipt)) receipts

  pub all_cold : (receipts : List WorkerState) → AreSliced receipts → is_hot (hot_objects stocks) object ≡ false → (v : Value) → fold (merge_at object) v (slices_left receipts) ≡ v
  all_cold [] sliced cold v = refl
  all_cold (receipt ∷ receipts) sliced cold v =
      fold-append (merge_at object) v (slices_in receipt.slices) (slices_left receipts)
      ∙ ap (λ u. fold (merge_at object) u (slices_left receipts))
      (ap (λ slices. fold (merge_at object) v (slices_in slices)) sliced.0 ∙ cold_slices stocks (rows_by receipt) object v cold)
      ∙ all_cold receipts sliced.1 cold v

  pub all_hot : (receipts : List WorkerState) → AreSliced receipts → IsDistinct same_object (hot_objects stocks) → is_hot (hot_objects stocks) object ≡ true → (v : Value)
      → fold (merge_at object) v (slices_left receipts) ≡ fold (λ u receipt. merged_with (slice_of object (value (rows_by receipt) object)) u) v receipts
  all_hot [] sliced distinct hot v = refl
  all_hot (receipt ∷ receipts) sliced distinct hot v =
      fold-append (merge_at object) v (slices_in receipt.slices) (slices_left receipts)
      ∙ ap (λ u. fold (merge_at object) u (slices_left receipts))
      (ap (λ slices. fold (merge_at object) v (slices_in slices)) sliced.0 ∙ hot_slices stocks (rows_by receipt) object v distinct hot)
      ∙ all_hot receipts sliced.1 distinct hot (merged_with (slice_of object (value (rows_by receipt) object)) v)
