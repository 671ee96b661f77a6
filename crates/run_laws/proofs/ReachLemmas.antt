-- Which indexes reach a phase.
use Rattle.std.proofs.Common.{◌≡◌, ℕ, suc, ◌+◌, ◌*◌, ◌/◌, ◌%◌, ◌<◌, ◌≤◌, ◌⊎◌, nat_lt, Bool, true, false, cond, refl, subst, sym, ap, ◌∙◌, inl, inr, arith, eq-eqb, eqb-true}
use Rattle.std.proofs.lemmas.Bool.{eqb-false, ltb-true, ltb-false, ne_eqb, cases_lt}
use Rattle.std.proofs.lemmas.Nat.{le-div, div_below, div-add-mod', mul-le, row_fits}
use Rattle.run_laws.specs.Phases.{is_split, reach, first_of}

-- the index k is d rounds and m further, the phase is in round i and split where b
round_reached : (q j : ℕ) → (i d m k : ℕ) → d * q + m ≡ k → i ≤ d → (b c : Bool) → nat_lt m j ≡ c → i * q + cond b j 0 ≤ k →
    2 * i + cond b 1 0 ≤ 2 * d + cond c 0 1
round_reached q j i d m k is low false true before from = omega arith
round_reached q j i d m k is low false false before from = omega arith
round_reached q j i d m k is low true false before from = omega arith
round_reached q j i d m k is low true true before from = go (cases_lt i d) where
  go : (i < d) ⊎ (d ≤ i) → 2 * i + 1 ≤ 2 * d + 0
  go (inl less) = omega arith
  go (inr same) =
      let e : i ≡ d = omega arith in let f : i * q ≡ d * q = ap (λ n. n * q) e in
      let less : m < j = ltb-true m j before in absurd (omega arith)

round_not_reached : (q j : ℕ) → (i d m k : ℕ) → d * q + m ≡ k → (b c : Bool) → nat_lt m j ≡ c → (k < i * q → d < i) → d ≤ i → k < i * q + cond b j 0 →
    2 * d + cond c 0 1 < 2 * i + cond b 1 0
round_not_reached q j i d m k is false true before below up until = let less : d < i = below (omega arith) in omega arith
round_not_reached q j i d m k is false false before below up until = let less : d < i = below (omega arith) in omega arith
round_not_reached q j i d m k is true true before below up until = omega arith
round_not_reached q j i d m k is true false before below up until = go (cases_lt d i) where
  go : (d < i) ⊎ (i ≤ d) → 2 * d + 1 < 2 * i + 1
  go (inl less) = omega arith
  go (inr same) =
      let e : i ≡ d = omega arith in let f : i * q ≡ d * q = ap (λ n. n * q) e in
      let more : j ≤ m = ltb-false m j before in absurd (omega arith)

-- a phase is twice its round, and one more where it is split
pub halves : (p : ℕ) → p ≡ 2 * (p / 2) + cond (is_split p) 1 0
halves p = go (is_split p) refl where
  go : (b : Bool) → is_split p ≡ b → p ≡ 2 * (p / 2) + cond b 1 0
  go true is = let one : p % 2 ≡ 1 = eqb-true (p % 2) 1 is in omega arith
  go false is = let other : p % 2 ≡ 1 → ⊥ = eqb-false (p % 2) 1 is in omega arith

pub split_then_joined : (p : ℕ) → is_split p ≡ true → is_split (suc p) ≡ false
split_then_joined p is =
    let one : p % 2 ≡ 1 = eqb-true (p % 2) 1 is in
    ne_eqb (suc p % 2) 1 (λ (e : suc p % 2 ≡ 1). omega arith)

pub joined_then_split : (p : ℕ) → is_split p ≡ false → is_split (suc p) ≡ true
joined_then_split p is =
    let other : p % 2 ≡ 1 → ⊥ = eqb-false (p % 2) 1 is in
    eq-eqb (suc p % 2) 1 (omega arith)

module _ (j s : ℕ) (some : 0 < j + s) where
  pub reach_from : (p k : ℕ) → first_of j s p ≤ k → p ≤ reach j s k
  reach_from p k from =
      let is : (k / (j + s)) * (j + s) + k % (j + s) ≡ k = div-add-mod' k (j + s) in
      let low : p / 2 ≤ k / (j + s) = le-div (p / 2) k (j + s) some (omega arith) in
      let e : p ≡ 2 * (p / 2) + cond (is_split p) 1 0 = halves p in
      let r : 2 * (p / 2) + cond (is_split p) 1 0 ≤ reach j s k =
      round_reached (j + s) j (p / 2) (k / (j + s)) (k % (j + s)) k is low (is_split p) (nat_lt (k % (j + s)) j) refl from in
      subst (λ n. n ≤ reach j s k) (sym e) r

  pub reach_until : (p k : ℕ) → k < first_of j s p → reach j s k < p
  reach_until p k until =
      let is : (k / (j + s)) * (j + s) + k % (j + s) ≡ k = div-add-mod' k (j + s) in
      let most : cond (is_split p) j 0 ≤ j + s = at_most (is_split p) in
      let fits : (p / 2) * (j + s) + (j + s) ≤ suc (p / 2) * (j + s) = row_fits (p / 2) (j + s) (suc (p / 2)) (j + s) (omega arith) (omega arith) in
      let up : k / (j + s) < suc (p / 2) = div_below k (j + s) (suc (p / 2)) some (omega arith) in
      let e : p ≡ 2 * (p / 2) + cond (is_split p) 1 0 = halves p in
      let r : reach j s k < 2 * (p / 2) + cond (is_split p) 1 0 =
      round_not_reached (j + s) j (p / 2) (k / (j + s)) (k % (j + s)) k is (is_split p) (nat_lt (k % (j + s)) j) refl
      (λ less. div_below k (j + s) (p / 2) some less) (omega arith) until in
      subst (λ n. reach j s k < n) (sym e) r where
        at_most : (b : Bool) → cond b j 0 ≤ j + s
        at_most true = omega arith
        at_most false = omega arith

  pub first_until : (p k : ℕ) → p ≤ reach j s k → first_of j s p ≤ k
  first_until p k reached = go (cases_lt k (first_of j s p)) where
    go : (k < first_of j s p) ⊎ (first_of j s p ≤ k) → first_of j s p ≤ k
    go (inl less) = let r : reach j s k < p = reach_until p k less in absurd (omega arith)
    go (inr from) = from

  -- later indexes reach no earlier phase
  pub reach_rises : (k l : ℕ) → k ≤ l → reach j s k ≤ reach j s l
  reach_rises k l le =
      let from : first_of j s (reach j s k) ≤ k = first_until (reach j s k) k (omega arith) in
      reach_from (reach j s k) l (omega arith)

  -- a phase ends where the next one begins
  pub first_next : (p : ℕ) → first_of j s (suc p) ≡ first_of j s p + cond (is_split p) s j
  first_next p = go (is_split p) (is_split (suc p)) refl refl where
    go : (b c : Bool) → is_split p ≡ b → is_split (suc p) ≡ c → (suc p / 2) * (j + s) + cond c j 0 ≡ ((p / 2) * (j + s) + cond b j 0) + cond b s j
    go true c is next =
        let one : p % 2 ≡ 1 = eqb-true (p % 2) 1 is in
        let e : c ≡ false = sym next ∙ split_then_joined p is in
        let half : suc p / 2 ≡ suc (p / 2) = omega arith in
        let times : (suc p / 2) * (j + s) ≡ (p / 2) * (j + s) + (j + s) = ap (λ n. n * (j + s)) half ∙ omega arith in
        subst (λ d. (suc p / 2) * (j + s) + cond d j 0 ≡ ((p / 2) * (j + s) + j) + s) (sym e) (omega arith)
    go false c is next =
        let other : p % 2 ≡ 1 → ⊥ = eqb-false (p % 2) 1 is in
        let e : c ≡ true = sym next ∙ joined_then_split p is in
        let half : suc p / 2 ≡ p / 2 = omega arith in
        let times : (suc p / 2) * (j + s) ≡ (p / 2) * (j + s) = ap (λ n. n * (j + s)) half in
        subst (λ d. (suc p / 2) * (j + s) + cond d j 0 ≡ ((p / 2) * (j + s) + 0) + j) (sym e) (omega arith)

  -- an index reaches no later phase than twice itself and one
  pub reach_most : (k : ℕ) → reach j s k ≤ 2 * k + 1
  reach_most k =
      let rows : suc k * 1 ≤ suc k * (j + s) = mul-le (suc k) 1 (suc k) (j + s) (omega arith) some in
      let d : k / (j + s) < suc k = div_below k (j + s) (suc k) some (omega arith) in
      go (nat_lt (k % (j + s)) j) d where
        go : (b : Bool) → k / (j + s) < suc k → 2 * (k / (j + s)) + cond b 0 1 ≤ 2 * k + 1
        go true d = omega arith
        go false d = omega arith
