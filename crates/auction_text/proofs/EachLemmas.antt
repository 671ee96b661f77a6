-- Lists that are those of their places.
use Rattle.std.proofs.Common.{arith, ◌≡◌, ◌<◌, ◌∙◌, ◌⊎◌, inl, inr, ℕ, zero, suc, append-nil, append_assoc, List, [], Ok, Result, map, ◌∷◌, ◌++◌, Some, ap, get_or, length, refl, slice_get, sym}
use Rattle.std.{proofs.lemmas.{List.{map-append}, Option.{slice_get-get_or}}, specs.Global.{Vec}}
use Rattle.auction_text.specs.inner.Workers.{AreEach}

-- what is at a place of a list and one more
pushed_at : {X : Type 0} (xs : List X) (x y : X) (i : ℕ) → slice_get (xs ++ x ∷ []) i ≡ Some y → (slice_get xs i ≡ Some y) ⊎ ((i ≡ length xs) × (y ≡ x))
pushed_at [] x y zero is = inr (refl, cc)
pushed_at [] x y (suc i) is = absurd (cc is)
pushed_at (z ∷ xs) x y zero is = inl is
pushed_at (z ∷ xs) x y (suc i) is = elim (pushed_at xs x y i is) [ inl here ↦ inl here | inr last ↦ inr (ap suc last.0, last.1) ]

-- what was made is there, whole, where all was made
pub made_at : {X E : Type 0} (made : List (Result X E)) (xs : List X) (i : ℕ) (x : X) → map Ok xs ≡ made → slice_get xs i ≡ Some x → (i < length made) × (get_or made i (Ok x) ≡ Ok x)
made_at made [] i x same is = absurd (cc is)
made_at [] (y ∷ ys) i x same is = absurd (cc same)
made_at (m ∷ ms) (y ∷ ys) zero x same is = (omega arith, cc)
made_at (m ∷ ms) (y ∷ ys) (suc i) x same is =
    let tail : map Ok ys ≡ ms = cc in let there = made_at ms ys i x tail is in
    (omega (arith, there.0), there.1)

-- one more was made
pub made_more : {X E : Type 0} (made left rest : List (Result X E)) (xs new : List X) (r : Result X E) (x : X)
    → map Ok xs ++ left ≡ made → left ≡ r ∷ rest → r ≡ Ok x → new ≡ xs ++ x ∷ [] → map Ok new ++ rest ≡ made
made_more {X} {E} made left rest xs new r x so_far next is more =
    ap (λ (l : List X). map Ok l ++ rest) more
    ∙ ap (λ (l : List (Result X E)). l ++ rest) (map-append Ok xs (x ∷ []))
    ∙ append_assoc (map Ok xs) (Ok x ∷ []) rest
    ∙ ap (λ (l : List (Result X E)). map Ok xs ++ l) (sym (next ∙ ap (λ (y : Result X E). y ∷ rest) is))
    ∙ so_far

pub all_made_at_end : {X E : Type 0} (made left : List (Result X E)) (xs : List X) → map Ok xs ++ left ≡ made → left ≡ [] → map Ok xs ≡ made
all_made_at_end {X} {E} made left xs so_far none =
    sym (append-nil (map Ok xs)) ∙ ap (λ (l : List (Result X E)). map Ok xs ++ l) (sym none) ∙ so_far

module _ {X : Type 0} (of : ℕ → List X) where
  -- one list more
  pub each_more : (lists : List (Vec X)) (list : Vec X) (place : ℕ) → AreEach of lists → length lists ≡ place → list.items ≡ of place → AreEach of (lists ++ list ∷ [])
  each_more lists list place each len is i other found = elim (pushed_at lists list other i found) [
    | inl here ↦ each i other here
    | inr last ↦ ap (λ (l : Vec X). l.items) last.1 ∙ is ∙ ap of (sym len ∙ sym last.0)
  ]

  -- the list at a place
  pub each_at : (lists : List (Vec X)) (place : ℕ) (list : Vec X) → AreEach of lists → place < length lists → list ≡ get_or lists place list → list.items ≡ of place
  each_at lists place list each within is = each place list (slice_get-get_or lists place list within ∙ ap Some (sym is))
