-- Steps that commute come to the same in any order.
use Rattle.std.proofs.Common.{◌≡◌, ℕ, zero, suc, ◌<◌, ◌≤◌, ◌⊎◌, inl, inr, List, [], ◌∷◌, fold, length, get_or, set, refl, sym, ap, ◌∙◌, arith}
use Rattle.std.proofs.{Math.Nat.{eq-or-lt_of_le}, lemmas.Bool.{cases_lt}}
use Rattle.std.proofs.lemmas.List.{Edits.{swap_is}, set-get_or, set_comm}
use Rattle.std.{proofs.lemmas.List.Sorted.{IsPermutation-keeps}, specs.List.{swap}}
use Rattle.std.specs.List.Sorted.{IsPermutation}

module _ {X V : Type 0} (step : V → X → V) (commute : (v : V) (x y : X) → step (step v x) y ≡ step (step v y) x) where
  -- a step before others is one after them
  through : (xs : List X) (v : V) (x : X) → fold step (step v x) xs ≡ step (fold step v xs) x
  through [] v x = refl
  through (y ∷ xs) v x = ap (λ u. fold step u xs) (commute v x y) ∙ through xs (step v y) x

  -- an element put in the place of another
  replaced : (xs : List X) (i : ℕ) (v : V) (x d : X) → i < length xs → step (fold step v (set xs i x)) (get_or xs i d) ≡ step (fold step v xs) x
  replaced [] i v x d within = absurd (omega (arith, within))
  replaced (y ∷ xs) zero v x d within = sym (through xs (step v x) y) ∙ ap (λ u. fold step u xs) (commute v x y) ∙ through xs (step v y) x
  replaced (y ∷ xs) (suc i) v x d within = replaced xs i (step v y) x d (omega (arith, within))

  -- two elements changed over
  exchanged : (xs : List X) (i j : ℕ) (v : V) (d : X) → i < j → j < length xs → fold step v (set (set xs i (get_or xs j d)) j (get_or xs i d)) ≡ fold step v xs
  exchanged [] i j v d less within = absurd (omega (arith, within))
  exchanged (x ∷ xs) zero (suc j) v d less within =
      through (set xs j x) v (get_or xs j d) ∙ replaced xs j v x d (omega (arith, within)) ∙ sym (through xs v x)
  exchanged (x ∷ xs) (suc i) (suc j) v d less within = exchanged xs i j (step v x) d (omega (arith, less)) (omega (arith, within))
  exchanged xs i j v d less within = absurd (omega (arith, less))

  first : (xs : List X) → 0 < length xs → X
  first [] some = absurd (omega (arith, some))
  first (x ∷ xs) some = x

  either_way : (xs : List X) (i j : ℕ) (v : V) (d : X) → i < length xs → j < length xs → (i < j) ⊎ ((i ≡ j) ⊎ (j < i))
      → fold step v (set (set xs i (get_or xs j d)) j (get_or xs i d)) ≡ fold step v xs
  either_way xs i j v d p q (inl less) = exchanged xs i j v d less q
  either_way xs i j v d p q (inr (inl same)) =
      ap (fold step v) (ap (λ k. set (set xs i (get_or xs k d)) k (get_or xs i d)) (sym same)
      ∙ ap (λ l. set l i (get_or xs i d)) (set-get_or xs i d) ∙ set-get_or xs i d)
  either_way xs i j v d p q (inr (inr less)) =
      ap (fold step v) (set_comm xs i j (get_or xs j d) (get_or xs i d) (λ same. omega (arith, less, same))) ∙ exchanged xs j i v d less p

  three_ways : (i j : ℕ) → (i < j) ⊎ (j ≤ i) → (i < j) ⊎ ((i ≡ j) ⊎ (j < i))
  three_ways i j (inl less) = inl less
  three_ways i j (inr more) = at (eq-or-lt_of_le more) where
    at : (j ≡ i) ⊎ (j < i) → (i < j) ⊎ ((i ≡ j) ⊎ (j < i))
    at (inl same) = inr (inl (sym same))
    at (inr less) = inr (inr less)

  swapped : (xs : List X) (i j : ℕ) → i < length xs → j < length xs → (v : V) → fold step v (swap xs i j) ≡ fold step v xs
  swapped xs i j p q v =
      let d = first xs (omega (arith, p)) in
      ap (fold step v) (sym (swap_is xs i j d p q)) ∙ either_way xs i j v d p q (three_ways i j (cases_lt i j))

  pub fold_permuted : (xs ys : List X) → IsPermutation xs ys → (v : V) → fold step v ys ≡ fold step v xs
  fold_permuted xs ys moved v = IsPermutation-keeps xs (λ l. fold step v l ≡ fold step v xs) refl (λ l i j p q h. swapped l i j p q v ∙ h) ys moved
