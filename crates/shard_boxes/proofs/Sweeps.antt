-- A loop that writes the elements of a list one after another.
use Rattle.std.proofs.Common.{◌≡◌, ℕ, ◌+◌, ◌<◌, ◌≤◌, zero, suc, List, [], ◌∷◌, length, get_or, set, sym, subst, arith, below_more}
use Rattle.std.proofs.lemmas.List.{get_or-set_same, get_or-set_other, length-set}

-- the elements before s are as they shall be, and the others as they were
abbrev pub Swept : {A : Type 0} → (ℕ → A → Type 0) → (ℕ → A → Type 0) → List A → ℕ → Type 0
Swept {A} P Q xs s = ((k : ℕ) (d : A) → k < s → P k (get_or xs k d)) × ((k : ℕ) (d : A) → s ≤ k → k < length xs → Q k (get_or xs k d))

pub swept_more : {A : Type 0} (P Q : ℕ → A → Type 0) (xs : List A) (s n : ℕ) (y : A) → s < length xs → Swept P Q xs s → P s y → n ≡ s + 1 → Swept P Q (set xs s y) n
swept_more P Q xs s n y below h new is = (
  (λ k d low. below_more (λ j. P j (get_or (set xs s y) j d)) s
      (λ j lower. let apart : (j ≡ s → ⊥) = (λ e. omega arith) in subst (P j) (sym (get_or-set_other xs s j y d apart)) (h.0 j d lower))
      (subst (P s) (sym (get_or-set_same xs s y d below)) new) k (omega arith)),
  (λ k d from low.
      let apart : (k ≡ s → ⊥) = (λ e. omega arith) in
      subst (Q k) (sym (get_or-set_other xs s k y d apart)) (h.1 k d (omega arith) (omega (arith, length-set xs s y, low)))),
)

pub each_set : {A : Type 0} (P : ℕ → A → Type 0) (xs : List A) (s : ℕ) (y : A) → s < length xs → ((k : ℕ) (d : A) → k < length xs → P k (get_or xs k d)) → P s y
    → (k : ℕ) (d : A) → k < length (set xs s y) → P k (get_or (set xs s y) k d)
each_set P [] s y below h new k d low = absurd (omega arith)
each_set P (x ∷ xs) zero y below h new zero d low = new
each_set P (x ∷ xs) zero y below h new (suc k) d low = h (suc k) d (omega arith)
each_set P (x ∷ xs) (suc s) y below h new zero d low = h 0 d (omega arith)
each_set P (x ∷ xs) (suc s) y below h new (suc k) d low = each_set (λ j. P (suc j)) xs s y (omega arith) (λ j e lo. h (suc j) e (omega arith)) new k d (omega arith)
