-- Lists in the order of their phases, cut before a phase.
use Rattle.std.proofs.Common.{◌≡◌, ℕ, suc, ◌<◌, ◌≤◌, ◌==◌, ◌⊎◌, ◌&&◌, not, nat_lt, Bool, true, false, cond, List, [], ◌∷◌, ◌++◌, refl, sym, ap, ◌∙◌, inl, inr, arith, eq-eqb}
use Rattle.std.proofs.lemmas.Bool.{lt-ltb, le-ltb, ne_eqb, cases_lt, cases_eq, cases_order, and_left, and_right, cond-true}
use Rattle.std.specs.List.{filter, AllByRecursion}
use Rattle.phase_laws.proofs.ListLemmas.{all-any, filter_false, filter_same}
use Rattle.phase_laws.{proofs.OrderLemmas.{all-weaker, ordered-filter}, specs.Order.{IsOrderedBy}}
use Rattle.run_laws.proofs.TurnLemmas.{filter_twice}

pub filter_true : {X : Type 0} (p : X → Bool) (xs : List X) → AllByRecursion (λ x. p x ≡ true) xs → filter p xs ≡ xs
filter_true p [] h = refl
filter_true p (x ∷ xs) h = cond-true (p x) _ _ h.0 ∙ ap (λ ys. x ∷ ys) (filter_true p xs h.1)

-- what is before the next number is before this one, or this one
before_this : (m n : ℕ) → (nat_lt m (suc n) && nat_lt m n) ≡ nat_lt m n
before_this m n = go (cases_lt m n) where
  go : (m < n) ⊎ (n ≤ m) → (nat_lt m (suc n) && nat_lt m n) ≡ nat_lt m n
  go (inl less) = ap (λ b. b && nat_lt m n) (lt-ltb m (suc n) (omega arith))
  go (inr from) = and_right (nat_lt m (suc n)) (nat_lt m n) (le-ltb m n from) ∙ sym (le-ltb m n from)

just_this : (m n : ℕ) → (nat_lt m (suc n) && not (nat_lt m n)) ≡ (m == n)
just_this m n = go (cases_order m n) where
  go : (m ≡ n) ⊎ ((m < n) ⊎ (n < m)) → (nat_lt m (suc n) && not (nat_lt m n)) ≡ (m == n)
  go (inl same) =
      ap (λ b. b && not (nat_lt m n)) (lt-ltb m (suc n) (omega arith))
      ∙ ap not (le-ltb m n (omega arith)) ∙ sym (eq-eqb m n same)
  go (inr (inl less)) =
      and_right (nat_lt m (suc n)) (not (nat_lt m n)) (ap not (lt-ltb m n less)) ∙ sym (ne_eqb m n (λ (e : m ≡ n). omega arith))
  go (inr (inr more)) =
      and_left (nat_lt m (suc n)) (not (nat_lt m n)) (le-ltb m (suc n) (omega arith)) ∙ sym (ne_eqb m n (λ (e : m ≡ n). omega arith))

equal_before : (m n k : ℕ) → m < n → (nat_lt k n && (k == m)) ≡ (k == m)
equal_before m n k less = go (cases_eq k m) where
  go : (k ≡ m) ⊎ (k ≡ m → ⊥) → (nat_lt k n && (k == m)) ≡ (k == m)
  go (inl same) = ap (λ b. b && (k == m)) (lt-ltb k n (omega arith))
  go (inr other) = and_right (nat_lt k n) (k == m) (ne_eqb k m other) ∙ sym (ne_eqb k m other)

module _ {X : Type 0} (phase : X → ℕ) where
  -- the elements before a phase
  abbrev pub until : ℕ → List X → List X
  until n xs = filter (λ x. nat_lt (phase x) n) xs

  -- the elements from a phase on
  abbrev pub since : ℕ → List X → List X
  since n xs = filter (λ x. not (nat_lt (phase x) n)) xs

  pub until_none : (xs : List X) → until 0 xs ≡ []
  until_none xs = filter_false (λ x. nat_lt (phase x) 0) xs (all-any (λ x. nat_lt (phase x) 0 ≡ false) (λ x. le-ltb (phase x) 0 (omega arith)) xs)

  pub until_all : (n : ℕ) (xs : List X) → AllByRecursion (λ x. phase x < n) xs → until n xs ≡ xs
  until_all n xs all = filter_true (λ x. nat_lt (phase x) n) xs (all-weaker (λ x. phase x < n) (λ x. nat_lt (phase x) n ≡ true) (λ x less. lt-ltb (phase x) n less) xs all)

  -- a list in order is cut at a phase in two
  pub cut_in_two : (n : ℕ) (xs : List X) → IsOrderedBy (λ x y. phase x ≤ phase y) xs → until n xs ++ since n xs ≡ xs
  cut_in_two n [] up = refl
  cut_in_two n (x ∷ xs) up = go (cases_lt (phase x) n) (cut_in_two n xs up.1) where
    go : (phase x < n) ⊎ (n ≤ phase x) → until n xs ++ since n xs ≡ xs → until n (x ∷ xs) ++ since n (x ∷ xs) ≡ x ∷ xs
    go (inl less) again =
        ap (λ b. cond b (x ∷ until n xs) (until n xs) ++ cond (not b) (x ∷ since n xs) (since n xs)) (lt-ltb (phase x) n less)
        ∙ ap (λ ys. x ∷ ys) again
    go (inr from) again =
        let later : AllByRecursion (λ y. nat_lt (phase y) n ≡ false) xs =
        all-weaker (λ y. phase x ≤ phase y) (λ y. nat_lt (phase y) n ≡ false) (λ y le. le-ltb (phase y) n (omega arith)) xs up.0 in
        ap (λ b. cond b (x ∷ until n xs) (until n xs) ++ cond (not b) (x ∷ since n xs) (since n xs)) (le-ltb (phase x) n from)
        ∙ ap (λ ys. ys ++ x ∷ since n xs) (filter_false (λ y. nat_lt (phase y) n) xs later)
        ∙ ap (λ ys. x ∷ ys) (filter_true (λ y. not (nat_lt (phase y) n)) xs
        (all-weaker (λ y. nat_lt (phase y) n ≡ false) (λ y. not (nat_lt (phase y) n) ≡ true) (λ y is. ap not is) xs later))

  -- what is before the next phase is what is before this one, and this one
  pub until_next : (n : ℕ) (xs : List X) → IsOrderedBy (λ x y. phase x ≤ phase y) xs → until (suc n) xs ≡ until n xs ++ filter (λ x. phase x == n) xs
  until_next n xs up =
      sym (cut_in_two n (until (suc n) xs) (ordered-filter (λ x y. phase x ≤ phase y) (λ x. nat_lt (phase x) (suc n)) xs up))
      ∙ ap (λ ys. ys ++ since n (until (suc n) xs))
      (filter_twice (λ x. nat_lt (phase x) (suc n)) (λ x. nat_lt (phase x) n) xs
      ∙ filter_same (λ x. nat_lt (phase x) (suc n) && nat_lt (phase x) n) (λ x. nat_lt (phase x) n) xs (all-any _ (λ x. before_this (phase x) n) xs))
      ∙ ap (λ ys. until n xs ++ ys)
      (filter_twice (λ x. nat_lt (phase x) (suc n)) (λ x. not (nat_lt (phase x) n)) xs
      ∙ filter_same (λ x. nat_lt (phase x) (suc n) && not (nat_lt (phase x) n)) (λ x. phase x == n) xs (all-any _ (λ x. just_this (phase x) n) xs))

  -- the elements of an earlier phase are before this one
  pub earlier_until : (m n : ℕ) → m < n → (xs : List X) → filter (λ x. phase x == m) (until n xs) ≡ filter (λ x. phase x == m) xs
  earlier_until m n less xs =
      filter_twice (λ x. nat_lt (phase x) n) (λ x. phase x == m) xs
      ∙ filter_same (λ x. nat_lt (phase x) n && (phase x == m)) (λ x. phase x == m) xs (all-any _ (λ x. equal_before m n (phase x) less) xs)
