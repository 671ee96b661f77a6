-- Two lists gone over together.
use Rattle.std.proofs.Common.{◌≡◌, ℕ, suc, ◌+◌, ◌<◌, ◌≤◌, ◌⊎◌, inl, inr, List, ◌∷◌, length, drop, get_or, sym, ap, ◌∙◌, arith, length-drop}
use Rattle.std.proofs.Math.{Numerals.{add-one}, Seq.{drop-cons}}

-- the element at a place, and those after it
pub next_at : {X : Type 0} (xs rest : List X) (k : ℕ) (x d : X) → drop k xs ≡ x ∷ rest → (k < length xs) × (get_or xs k d ≡ x) × (rest ≡ drop (k + 1) xs)
next_at xs rest k x d is =
    let lt : k < length xs = omega (arith, length-drop k xs, ap length is) in
    let both : get_or xs k d ∷ drop (suc k) xs ≡ x ∷ rest = sym (drop-cons xs k d lt) ∙ is in
    let first : get_or xs k d ≡ x = cc in let others : drop (suc k) xs ≡ rest = cc in
    (lt, first, sym others ∙ ap (λ n. drop n xs) (sym (add-one k)))

-- if one of two lists of one length is at its end
pub all_done : {X Y S T : Type 0} {P : S → Type 0} {Q : T → Type 0} (xs : List X) (ys : List Y) (k : ℕ) → length ys ≡ length xs →
    ((s : S) → P s → length (drop k xs) ≡ 0) → ((t : T) → Q t → length (drop k ys) ≡ 0) → ((s : S) × P s) ⊎ ((t : T) × Q t) → length xs ≤ k
all_done xs ys k same left right (inl none) = omega (arith, left none.0 none.1, length-drop k xs)
all_done xs ys k same left right (inr none) = omega (arith, right none.0 none.1, same, length-drop k ys)
