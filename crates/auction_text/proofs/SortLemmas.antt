-- There is one list in order, and a sort finds it.
use Rattle.std.proofs.Common.{◌≡◌, ◌∷◌, ◌∙◌, ◌<◌, ◌≤◌, ◌+◌, ℕ, zero, suc, Bool, true, false, cond, List, [], length, refl, sym, ap, subst, arith, get_or, inl, inr}
use Rattle.std.proofs.lemmas.Bool.{cases_Bool, and_parts, false_from_ne_true, false≢true, not-true}
use Rattle.std.proofs.lemmas.List.Sorted.{IsPermutation-cons, IsPermutation-middle, IsPermutation-refl, IsPermutation-trans, sorted_far}
use Rattle.std.specs.{Cmp.{IsStrictWeakOrder}, List.{AllByRecursion, filter}}
use Rattle.std.specs.List.Sorted.{IsPermutation, IsSortedBy, IsStableBy, ties}
use Rattle.auction_text.specs.Order.{put_in, sorted}
use Rattle.phase_laws.proofs.OrderLemmas.{all-cond}

-- the first that a filter keeps is one of the list
first_if : {X : Type 0} (P : X → Type 0) (b : Bool) (y x : X) (kept rest : List X) → P y → (kept ≡ x ∷ rest → P x) → cond b (y ∷ kept) kept ≡ x ∷ rest → P x
first_if P true y x kept rest here later e = let same : y ≡ x = cc e in subst P same here
first_if P false y x kept rest here later e = later e

first_kept : {X : Type 0} (P : X → Type 0) (p : X → Bool) (xs : List X) (x : X) (rest : List X) → AllByRecursion P xs → filter p xs ≡ x ∷ rest → P x
first_kept P p [] x rest all e = absurd (cc e)
first_kept P p (y ∷ ys) x rest all e = first_if P (p y) y x (filter p ys) rest all.0 (first_kept P p ys x rest all.1) e

-- two neighbours that are not both kept may change places
pub kept_either : {X : Type 0} (b c : Bool) (x y : X) (l : List X) → (b ≡ true → c ≡ true → false ≡ true) →
    cond b (y ∷ cond c (x ∷ l) l) (cond c (x ∷ l) l) ≡ cond c (x ∷ cond b (y ∷ l) l) (cond b (y ∷ l) l)
kept_either true true x y l never = absurd (cc (never refl refl))
kept_either b c x y l never = refl

rest_if : {X : Type 0} (b : Bool) (x : X) (l m : List X) → cond b (x ∷ l) l ≡ cond b (x ∷ m) m → l ≡ m
rest_if true x l m e = cc e
rest_if false x l m e = e

module _ {X : Type 0} (lt : X → X → Bool) (order : IsStrictWeakOrder lt) where
  -- none of them comes before x
  abbrev pub NoneBefore : X → List X → Type 0
  NoneBefore x xs = AllByRecursion (λ y. lt y x ≡ false) xs

  -- each stands before none that comes before it
  abbrev pub IsUp : List X → Type 0
  IsUp [] = Unit {0}
  IsUp (x ∷ xs) = NoneBefore x xs × IsUp xs

  itself : (x : X) → lt x x ≡ false
  itself x = false_from_ne_true (lt x x) (λ e. false≢true (sym (order.one_way x x e) ∙ e))

  ties_itself : (x : X) → ties lt x x ≡ true
  ties_itself x = rw (itself x) refl

  pub none_weaker : (x y : X) (xs : List X) → lt y x ≡ false → NoneBefore y xs → NoneBefore x xs
  none_weaker x y [] e none = tt
  none_weaker x y (z ∷ zs) e none = (order.chain z y x none.0 e, none_weaker x y zs e none.1)

  -- a sort's clause, for lists by recursion
  none_of : (x : X) (xs : List X) → ((k : ℕ) → k < length xs → lt (get_or xs k x) x ≡ false) → NoneBefore x xs
  none_of x [] h = tt
  none_of x (y ∷ ys) h = (h 0 (omega arith), none_of x ys (λ k p. h (suc k) (omega arith)))

  up_of : (xs : List X) → ((i j : ℕ) (d : X) → i ≤ j → j < length xs → lt (get_or xs j d) (get_or xs i d) ≡ false) → IsUp xs
  up_of [] h = tt
  up_of (x ∷ xs) h = (none_of x xs (λ k p. h 0 (suc k) x (omega arith) (omega arith)), up_of xs (λ i j d p q. h (suc i) (suc j) d (omega arith) (omega arith)))

  pub up_from_sorted : (xs : List X) → IsSortedBy lt xs → IsUp xs
  up_from_sorted xs up = up_of xs (sorted_far lt order xs up)

  at_next : (xs : List X) → IsUp xs → (k : ℕ) (d : X) → suc k < length xs → lt (get_or xs (suc k) d) (get_or xs k d) ≡ false
  at_next (x ∷ y ∷ ys) up zero d within = up.0.0
  at_next (x ∷ y ∷ ys) up (suc k) d within = at_next (y ∷ ys) up.1 k d (omega arith)
  at_next xs up k d within = absurd (omega arith)

  pub sorted_from_up : (xs : List X) → IsUp xs → IsSortedBy lt xs
  sorted_from_up xs up k d low within =
      let next : k + 1 ≡ suc k = omega arith in
      ap (λ n. lt (get_or xs n d) (get_or xs k d)) next ∙ at_next xs up k d (omega arith)

  -- two lists in order with the same ties are one
  pub one_in_order : (ys zs : List X) → IsUp ys → IsUp zs → ((x : X) → filter (ties lt x) ys ≡ filter (ties lt x) zs) → ys ≡ zs
  one_in_order [] [] up up' same = refl
  one_in_order [] (z ∷ zs) up up' same = absurd (cc (rw (ties_itself z) at (same z)))
  one_in_order (y ∷ ys) [] up up' same = absurd (cc (rw (ties_itself y) at (same y)))
  one_in_order (y ∷ ys) (z ∷ zs) up up' same =
      let at_y : y ∷ filter (ties lt y) ys ≡ filter (ties lt y) (z ∷ zs) = rw (ties_itself y) at (same y) in
      let at_z : filter (ties lt z) (y ∷ ys) ≡ z ∷ filter (ties lt z) zs = rw (ties_itself z) at (same z) in
      let y_z : lt y z ≡ false = first_kept (λ e. lt e z ≡ false) (ties lt y) (z ∷ zs) y _ (itself z, up'.0) (sym at_y) in
      let z_y : lt z y ≡ false = first_kept (λ e. lt e y ≡ false) (ties lt z) (y ∷ ys) z _ (itself y, up.0) at_z in
      let tie : ties lt y z ≡ true = rw (y_z, z_y) refl in
      let heads : y ∷ filter (ties lt y) ys ≡ z ∷ filter (ties lt y) zs = rw tie at at_y in
      let first : y ≡ z = cc heads in
      let rests : ys ≡ zs = one_in_order ys zs up.1 up'.1 (λ x. rest_if (ties lt x y) y _ _ (rw (← first) at (same x))) in
      ap (λ (x : X). x ∷ ys) first ∙ ap (λ (l : List X). z ∷ l) rests

  -- put_in keeps the order and the ties
  pub none_put_in : (x y : X) (xs : List X) → lt x y ≡ false → NoneBefore y xs → NoneBefore y (put_in lt x xs)
  unfolding put_in
  none_put_in x y [] e none = (e, tt)
  none_put_in x y (z ∷ zs) e none = all-cond _ (lt z x) _ _ (none.0, none_put_in x y zs e none.1) (e, none)

  up-put_in : (x : X) (xs : List X) → IsUp xs → IsUp (put_in lt x xs)
  unfolding put_in
  up-put_in x [] up = (tt, tt)
  up-put_in x (y ∷ ys) up = elim (cases_Bool (lt y x)) [
    | inl before ↦ rw before (none_put_in x y ys (order.one_way y x before) up.0, up-put_in x ys up.1)
    | inr after ↦ rw after ((after, none_weaker x y ys after up.0), up)
  ]

  never_both : (t x y : X) → lt y x ≡ true → ties lt t y ≡ true → ties lt t x ≡ true → false ≡ true
  never_both t x y before tie_y tie_x =
      let y_t : lt y t ≡ false = not-true (lt y t) (and_parts _ _ tie_y).1 in
      let t_x : lt t x ≡ false = not-true (lt t x) (and_parts _ _ tie_x).0 in
      sym (order.chain y t x y_t t_x) ∙ before

  ties-put_in : (t x : X) (xs : List X) → filter (ties lt t) (put_in lt x xs) ≡ filter (ties lt t) (x ∷ xs)
  unfolding put_in
  ties-put_in t x [] = refl
  ties-put_in t x (y ∷ ys) = elim (cases_Bool (lt y x)) [
    | inl before ↦ rw (before, ties-put_in t x ys) (kept_either (ties lt t y) (ties lt t x) x y (filter (ties lt t) ys) (never_both t x y before))
    | inr after ↦ rw after refl
  ]

  pub up-sorted : (xs : List X) → IsUp (sorted lt xs)
  unfolding sorted
  up-sorted [] = tt
  up-sorted (x ∷ xs) = up-put_in x (sorted lt xs) (up-sorted xs)

  pub ties-sorted : (t : X) (xs : List X) → filter (ties lt t) (sorted lt xs) ≡ filter (ties lt t) xs
  unfolding sorted
  ties-sorted t [] = refl
  ties-sorted t (x ∷ xs) = ties-put_in t x (sorted lt xs) ∙ ap (λ (l : List X). cond (ties lt t x) (x ∷ l) l) (ties-sorted t xs)

  -- what a stable sort makes of a list
  pub sorted_once : (xs ys : List X) → IsSortedBy lt ys → IsStableBy lt xs ys → ys ≡ sorted lt xs
  sorted_once xs ys up stable = one_in_order ys (sorted lt xs) (up_from_sorted ys up) (up-sorted xs) (λ t. stable t ∙ sym (ties-sorted t xs))

  -- a list that is in order stays as it is
  pub put_in-first : (x : X) (xs : List X) → NoneBefore x xs → put_in lt x xs ≡ x ∷ xs
  unfolding put_in
  put_in-first x [] none = refl
  put_in-first x (y ∷ ys) none = rw none.0 refl

  pub sorted-up : (xs : List X) → IsUp xs → sorted lt xs ≡ xs
  unfolding sorted
  sorted-up [] up = refl
  sorted-up (x ∷ xs) up = ap (put_in lt x) (sorted-up xs up.1) ∙ put_in-first x xs up.0

  pub sorted-already : (xs : List X) → IsSortedBy lt xs → sorted lt xs ≡ xs
  sorted-already xs up = sorted-up xs (up_from_sorted xs up)

module _ {X : Type 0} (lt : X → X → Bool) where
  pub sorted-nil : sorted lt [] ≡ []
  unfolding sorted
  sorted-nil = refl

  permutation-put_in : (x : X) (xs : List X) → IsPermutation (x ∷ xs) (put_in lt x xs)
  unfolding put_in
  permutation-put_in x [] = IsPermutation-refl (x ∷ [])
  permutation-put_in x (y ∷ ys) = elim (cases_Bool (lt y x)) [
    | inl before ↦ rw before (IsPermutation-trans _ _ _ (IsPermutation-middle (x ∷ []) y ys) (IsPermutation-cons y _ _ (permutation-put_in x ys)))
    | inr after ↦ rw after (IsPermutation-refl (x ∷ y ∷ ys))
  ]

  pub permutation-sorted : (xs : List X) → IsPermutation xs (sorted lt xs)
  unfolding sorted
  permutation-sorted [] = IsPermutation-refl []
  permutation-sorted (x ∷ xs) = IsPermutation-trans _ _ _ (IsPermutation-cons x _ _ (permutation-sorted xs)) (permutation-put_in x (sorted lt xs))
