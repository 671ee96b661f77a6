-- Where texts differ first.
use Rattle.std.proofs.Common.{arith, ◌≡◌, ◌≢◌, ◌≤◌, ◌<◌, ◌∙◌, ℕ, List, Some, None, length, min, take, slice_get, slice_index, sym, inl, inr}
use Rattle.std.proofs.{Math.Nat.{min-eq_left, min-eq_right}, lemmas.Bool.{cases_lt}}
use Rattle.std.proofs.lemmas.{List.{take_all}, Option.{slice_get_past, slice_get-get_or, same_Some}}

-- a place that is within neither of two texts is the shorter's end
pub shorter_ends : (a b n : ℕ) → n ≡ min a b → n < a → n < b → ⊥
shorter_ends a b n is in_a in_b = elim (cases_lt a b) [
  | inl less ↦
      let first = is ∙ min-eq_left {n = a} {m = b} (omega arith) in
      absurd (omega (arith, first, in_a))
  | inr more ↦
      let second = is ∙ min-eq_right {n = b} {m = a} more in
      absurd (omega (arith, second, in_b))
]

some_or_none : {A : Type 0} (a : A) → Some a ≡ None → ⊥
some_or_none a e = cc

-- where two texts that differ have no byte in common, they differ first
pub differs_at : (xs ys : List ℕ) (at : ℕ) → xs ≢ ys → take at xs ≡ take at ys → at ≤ length xs → at ≤ length ys → (at < length xs → at < length ys → slice_index xs at ≢ slice_index ys at)
    → slice_get xs at ≢ slice_get ys at
differs_at xs ys at other same x y ends = λ e. elim (cases_lt at (length xs)) [
  | inl in_xs ↦ elim (cases_lt at (length ys)) [
    | inl in_ys ↦ ends in_xs in_ys (same_Some _ _ (sym (slice_get-get_or xs at 0 in_xs) ∙ e ∙ slice_get-get_or ys at 0 in_ys))
    | inr past_ys ↦ some_or_none _ (sym (slice_get-get_or xs at 0 in_xs) ∙ e ∙ slice_get_past ys at past_ys)
  ]
  | inr past_xs ↦ elim (cases_lt at (length ys)) [
    | inl in_ys ↦ some_or_none _ (sym (slice_get-get_or ys at 0 in_ys) ∙ sym e ∙ slice_get_past xs at past_xs)
    | inr past_ys ↦ other (sym (take_all at xs past_xs) ∙ same ∙ take_all at ys past_ys)
  ]
]
