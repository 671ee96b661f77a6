-- The one argument of a command with an id.
use Rattle.std.proofs.Common.{◌≡◌, ◌∙◌, ◌<◌, ℕ, Bool, true, false, zero, suc, cond, List, [], ◌∷◌, length, map, refl, sym, ap, true≢false, arith}
use Rattle.std.specs.List.{Any, filter, slice_index_or}
use Rattle.clap.specs.{Walk.{Rule, rule_of}, declared.builder.arg.Arg.{Arg}}

abbrev first_of : Rule → List Rule → Rule
first_of rule [] = rule
first_of rule (r ∷ rs) = r

abbrev rest_of : List Rule → List Rule
rest_of [] = []
rest_of (r ∷ rs) = rs

module _ (p : Rule → Bool) where
  -- what passes is among those that pass
  some_passes : (xs : List Arg) (k : ℕ) (x : Arg) → k < length xs → p (rule_of (slice_index_or xs k x)) ≡ true → filter p (map rule_of xs) ≡ [] → ⊥
  some_passes [] k x lt hit none = omega arith
  some_passes (y ∷ ys) k x lt hit none = go (λ j. some_passes ys j x) (p (rule_of y)) refl k lt hit none where
    go : ((j : ℕ) → j < length ys → p (rule_of (slice_index_or ys j x)) ≡ true → filter p (map rule_of ys) ≡ [] → ⊥)
        → (b : Bool) → p (rule_of y) ≡ b → (j : ℕ) → j < length (y ∷ ys) → p (rule_of (slice_index_or (y ∷ ys) j x)) ≡ true
        → cond b (rule_of y ∷ filter p (map rule_of ys)) (filter p (map rule_of ys)) ≡ [] → ⊥
    go before true is j below here nil = absurd cc
    go before false is zero below here nil = true≢false (sym here ∙ is)
    go before false is (suc j) below here nil = before j (omega arith) here nil

  -- where one passes, what passes is that one
  pub only_one : (rule : Rule) (xs : List Arg) (k : ℕ) (x : Arg) → filter p (map rule_of xs) ≡ rule ∷ [] → k < length xs → p (rule_of (slice_index_or xs k x)) ≡ true
      → rule_of (slice_index_or xs k x) ≡ rule
  only_one rule [] k x one lt hit = absurd (omega arith)
  only_one rule (y ∷ ys) k x one lt hit = go (λ j. only_one rule ys j x) (p (rule_of y)) refl k lt hit one where
    go : ((j : ℕ) → filter p (map rule_of ys) ≡ rule ∷ [] → j < length ys → p (rule_of (slice_index_or ys j x)) ≡ true → rule_of (slice_index_or ys j x) ≡ rule)
        → (b : Bool) → p (rule_of y) ≡ b → (j : ℕ) → j < length (y ∷ ys) → p (rule_of (slice_index_or (y ∷ ys) j x)) ≡ true
        → cond b (rule_of y ∷ filter p (map rule_of ys)) (filter p (map rule_of ys)) ≡ rule ∷ [] → rule_of (slice_index_or (y ∷ ys) j x) ≡ rule
    go before true is zero below here same = ap (first_of rule) same
    go before true is (suc j) below here same = absurd (some_passes ys j x (omega arith) here (ap rest_of same))
    go before false is zero below here same = absurd (true≢false (sym here ∙ is))
    go before false is (suc j) below here same = before j same (omega arith) here

  -- and there is one
  pub there_is : (rule : Rule) (xs : List Arg) → filter p (map rule_of xs) ≡ rule ∷ [] → Any (λ a. rule_of a ≡ rule) xs
  there_is rule [] one = absurd cc
  there_is rule (y ∷ ys) one = go (there_is rule ys) (p (rule_of y)) one where
    next : Any (λ a. rule_of a ≡ rule) ys → Any (λ a. rule_of a ≡ rule) (y ∷ ys)
    next any = (suc any.0, any.1, omega (arith, any.2), any.3, any.4)

    go : (filter p (map rule_of ys) ≡ rule ∷ [] → Any (λ a. rule_of a ≡ rule) ys) → (b : Bool) → cond b (rule_of y ∷ filter p (map rule_of ys)) (filter p (map rule_of ys)) ≡ rule ∷ [] → Any (λ a. rule_of a ≡ rule) (y ∷ ys)
    go before true same = (0, y, omega arith, refl, ap (first_of rule) same)
    go before false same = next (before same)
