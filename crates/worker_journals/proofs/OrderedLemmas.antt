-- Entries in order.
use Rattle.std.proofs.Common.{◌≡◌, ◌<◌, ◌≤◌, ◌+◌, ◌==◌, ℕ, Bool, true, false, cond, List, [], ◌∷◌, ◌++◌, length, refl, sym, ap, ◌∙◌, subst, arith, inl, inr, eq-eqb}
use Rattle.std.proofs.lemmas.Bool.{cond-true, cond-false, ne_eqb, cases_eq, cases_Bool}
use Rattle.std.proofs.lemmas.Bool.Decides.{nat_tests}
use Rattle.std.proofs.lemmas.List.Sorted.{IsPermutation-refl, IsPermutation-trans, IsPermutation-cons, IsPermutation-middle}
use Rattle.std.specs.List.{Sorted.{IsPermutation}, AllByRecursion}
use Rattle.phase_laws.proofs.OrderLemmas.{all-weaker, all-cond}
use Rattle.phase_laws.specs.Order.{IsOrderedBy, Precedes, IsAscending, part}
use Rattle.auction_rows.specs.declared.rows.Entry.{Entry}
use Rattle.worker_journals.specs.Journals.{entry_number, entry_worker}
use Rattle.worker_journals.specs.Merged.{comes_before, put_in, in_order}

-- of one worker, the earlier entry has the lesser number
abbrev pub Rises : Entry → Entry → Type 0
Rises x y = x.worker ≡ y.worker → x.number < y.number

-- The test.

pub precedes : (x y : Entry) → comes_before x y ≡ true → Precedes entry_number entry_worker x y
precedes x y is = grind (arith, nat_tests)

pub not_before : (x y : Entry) → y.number ≤ x.number → (y.number ≡ x.number → y.worker ≤ x.worker) → comes_before x y ≡ false
not_before x y least tie = grind (arith, nat_tests)

pub before_by_number : (x y : Entry) → x.number < y.number → comes_before x y ≡ true
before_by_number x y less = grind (arith, nat_tests)

-- Lists.

pub all_put : (P : Entry → Type 0) (e : Entry) (xs : List Entry) → P e → AllByRecursion P xs → AllByRecursion P (put_in e xs)
unfolding put_in
all_put P e [] one all = (one, tt)
all_put P e (x ∷ xs) one all =
    all-cond P (comes_before x e) (x ∷ put_in e xs) (e ∷ x ∷ xs) (all.0, all_put P e xs one all.1) (one, all)

pub all_in_order : (P : Entry → Type 0) (xs : List Entry) → AllByRecursion P xs → AllByRecursion P (in_order xs)
unfolding in_order
all_in_order P [] all = tt
all_in_order P (x ∷ xs) all = all_put P x (in_order xs) all.0 (all_in_order P xs all.1)

-- What goes first.

put_first : (e : Entry) (xs : List Entry) → AllByRecursion (λ x. comes_before x e ≡ false) xs → put_in e xs ≡ e ∷ xs
unfolding put_in
put_first e [] none = refl
put_first e (x ∷ xs) none = cond-false (comes_before x e) _ _ none.0

-- before which none comes, that is the first
pub first_in_order : (e : Entry) (xs : List Entry) → AllByRecursion (λ x. comes_before x e ≡ false) xs → in_order (e ∷ xs) ≡ e ∷ in_order xs
unfolding in_order
first_in_order e xs none = put_first e (in_order xs) (all_in_order (λ x. comes_before x e ≡ false) xs none)

put_past : (x e : Entry) (xs : List Entry) → comes_before e x ≡ true → put_in x (e ∷ xs) ≡ e ∷ put_in x xs
unfolding put_in
put_past x e xs before = cond-true (comes_before e x) _ _ before

-- also among those that it comes before
pub first_among : (e : Entry) (others rest left : List Entry) → AllByRecursion (λ x. comes_before e x ≡ true) others →
    in_order rest ≡ e ∷ in_order left → in_order (others ++ rest) ≡ e ∷ in_order (others ++ left)
unfolding in_order
first_among e [] rest left before is = is
first_among e (x ∷ others) rest left before is =
    ap (put_in x) (first_among e others rest left before.1 is) ∙ put_past x e (in_order (others ++ left)) before.0

-- The order.

-- which of two that are told apart comes first
other_way : (x e : Entry) → comes_before x e ≡ false → Rises e x → Precedes entry_number entry_worker e x
other_way x e not rises = elim (cases_eq e.worker x.worker) [
  | inl same ↦ inl (rises same)
  | inr others ↦ grind (arith, nat_tests)
]

ordered-cond : {X : Type 0} (R : X → X → Type 0) (b : Bool) (xs ys : List X) → (b ≡ true → IsOrderedBy R xs) → (b ≡ false → IsOrderedBy R ys) → IsOrderedBy R (cond b xs ys)
ordered-cond R true xs ys p q = p refl
ordered-cond R false xs ys p q = q refl

precedes_both : (e x y : Entry) → Precedes entry_number entry_worker e x → Precedes entry_number entry_worker x y → Precedes entry_number entry_worker e y
precedes_both e x y a b = elim a [
  | inl lt ↦ elim b [ inl lt' ↦ inl (omega arith) | inr tie' ↦ inl (omega (arith, tie'.0)) ]
  | inr tie ↦ elim b [ inl lt' ↦ inl (omega (arith, tie.0)) | inr tie' ↦ inr (tie.0 ∙ tie'.0, omega (arith, tie.1, tie'.1)) ]
]

put_ascends : (e : Entry) (xs : List Entry) → AllByRecursion (Rises e) xs → IsAscending entry_number entry_worker xs →
    IsAscending entry_number entry_worker (put_in e xs)
unfolding put_in
put_ascends e [] rises up = (tt, tt)
put_ascends e (x ∷ xs) rises up =
    ordered-cond (Precedes entry_number entry_worker) (comes_before x e) (x ∷ put_in e xs) (e ∷ x ∷ xs)
    (λ before. (all_put (Precedes entry_number entry_worker x) e xs (precedes x e before) up.0, put_ascends e xs rises.1 up.1))
    (λ not. let first = other_way x e not rises.0 in
    ((first, all-weaker (Precedes entry_number entry_worker x) (Precedes entry_number entry_worker e) (λ y after. precedes_both e x y first after) xs up.0), up))

pub in_order_ascends : (xs : List Entry) → IsOrderedBy Rises xs → IsAscending entry_number entry_worker (in_order xs)
unfolding in_order
in_order_ascends [] rises = tt
in_order_ascends (x ∷ xs) rises = put_ascends x (in_order xs) (all_in_order (Rises x) xs rises.0) (in_order_ascends xs rises.1)

-- The part of a worker.

pub part_own : (w : ℕ) (x : Entry) (xs : List Entry) → x.worker ≡ w → part entry_worker w (x ∷ xs) ≡ x ∷ part entry_worker w xs
part_own w x xs is = cond-true (x.worker == w) _ _ (eq-eqb x.worker w is)

pub part_other : (w : ℕ) (x : Entry) (xs : List Entry) → (x.worker ≡ w → ⊥) → part entry_worker w (x ∷ xs) ≡ part entry_worker w xs
part_other w x xs not = cond-false (x.worker == w) _ _ (ne_eqb x.worker w not)

part_put_other : (w : ℕ) (e : Entry) (xs : List Entry) → (e.worker ≡ w → ⊥) → part entry_worker w (put_in e xs) ≡ part entry_worker w xs
unfolding put_in
part_put_other w e [] not = part_other w e [] not
part_put_other w e (x ∷ xs) not = elim (cases_Bool (comes_before x e)) [
  | inl before ↦ ap (part entry_worker w) (cond-true (comes_before x e) _ _ before)
      ∙ ap (λ ys. cond (x.worker == w) (x ∷ ys) ys) (part_put_other w e xs not)
  | inr behind ↦ ap (part entry_worker w) (cond-false (comes_before x e) _ _ behind) ∙ part_other w e (x ∷ xs) not
]

-- one of the worker that comes before the others of the worker
part_put_own : (w : ℕ) (e : Entry) (xs : List Entry) → e.worker ≡ w → AllByRecursion (Rises e) xs →
    part entry_worker w (put_in e xs) ≡ e ∷ part entry_worker w xs
unfolding put_in
part_put_own w e [] is rises = part_own w e [] is
part_put_own w e (x ∷ xs) is rises = elim (cases_Bool (comes_before x e)) [
  | inl before ↦
      let others : x.worker ≡ w → ⊥ = λ same. not_both x e (precedes x e before) (rises.0 (is ∙ sym same)) in
      ap (part entry_worker w) (cond-true (comes_before x e) _ _ before) ∙ part_other w x (put_in e xs) others
      ∙ part_put_own w e xs is rises.1 ∙ ap (λ ys. e ∷ ys) (sym (part_other w x xs others))
  | inr behind ↦ ap (part entry_worker w) (cond-false (comes_before x e) _ _ behind) ∙ part_own w e (x ∷ xs) is
] where
  not_both : (x e : Entry) → Precedes entry_number entry_worker x e → e.number < x.number → ⊥
  not_both x e before less = elim before [ inl lt ↦ omega arith | inr tie ↦ omega (arith, tie.0) ]

pub part_in_order : (w : ℕ) (xs : List Entry) → IsOrderedBy Rises xs → part entry_worker w (in_order xs) ≡ part entry_worker w xs
unfolding in_order
part_in_order w [] rises = refl
part_in_order w (x ∷ xs) rises = elim (cases_eq x.worker w) [
  | inl is ↦ part_put_own w x (in_order xs) is (all_in_order (Rises x) xs rises.0)
      ∙ ap (λ ys. x ∷ ys) (part_in_order w xs rises.1) ∙ sym (part_own w x xs is)
  | inr not ↦ part_put_other w x (in_order xs) not ∙ part_in_order w xs rises.1 ∙ sym (part_other w x xs not)
]

-- How many there are.

length_put : (e : Entry) (xs : List Entry) → length (put_in e xs) ≡ length xs + 1
unfolding put_in
length_put e [] = refl
length_put e (x ∷ xs) = elim (cases_Bool (comes_before x e)) [
  | inl before ↦ ap length (cond-true (comes_before x e) (x ∷ put_in e xs) (e ∷ x ∷ xs) before) ∙ omega (arith, length_put e xs)
  | inr behind ↦ ap length (cond-false (comes_before x e) (x ∷ put_in e xs) (e ∷ x ∷ xs) behind) ∙ omega arith
]

pub length_in_order : (xs : List Entry) → length (in_order xs) ≡ length xs
unfolding in_order
length_in_order [] = refl
length_in_order (x ∷ xs) = omega (arith, length_put x (in_order xs), length_in_order xs)

-- They are the same entries.

put_permutes : (e : Entry) (xs : List Entry) → IsPermutation (e ∷ xs) (put_in e xs)
unfolding put_in
put_permutes e [] = IsPermutation-refl (e ∷ [])
put_permutes e (x ∷ xs) = elim (cases_Bool (comes_before x e)) [
  | inl before ↦ subst (IsPermutation (e ∷ x ∷ xs)) (sym (cond-true (comes_before x e) (x ∷ put_in e xs) (e ∷ x ∷ xs) before))
      (IsPermutation-trans (e ∷ x ∷ xs) (x ∷ e ∷ xs) (x ∷ put_in e xs) (IsPermutation-middle (e ∷ []) x xs)
      (IsPermutation-cons x (e ∷ xs) (put_in e xs) (put_permutes e xs)))
  | inr behind ↦ subst (IsPermutation (e ∷ x ∷ xs)) (sym (cond-false (comes_before x e) (x ∷ put_in e xs) (e ∷ x ∷ xs) behind))
      (IsPermutation-refl (e ∷ x ∷ xs))
]

pub in_order_permutes : (xs : List Entry) → IsPermutation xs (in_order xs)
unfolding in_order
in_order_permutes [] = IsPermutation-refl []
in_order_permutes (x ∷ xs) =
    IsPermutation-trans (x ∷ xs) (x ∷ in_order xs) (put_in x (in_order xs)) (IsPermutation-cons x xs (in_order xs) (in_order_permutes xs))
    (put_permutes x (in_order xs))
