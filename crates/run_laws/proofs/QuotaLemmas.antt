-- What the quota gives is what reaches the phase.
use Rattle.std.proofs.Common.{get_or, slice_get, Some, ◌++◌, ◌≡◌, ℕ, zero, suc, ◌+◌, ◌-◌, ◌<◌, ◌≤◌, ◌==◌, min, Bool, true, false, cond, List, [], ◌∷◌, length, take, drop, refl, sym, ap, ◌∙◌, arith, eq-eqb}
use Rattle.std.proofs.{Math.Seq.{take-suc}, lemmas.Bool.{ne_eqb, cond-true, cond-false}}
use Rattle.std.proofs.lemmas.List.{length-drop, length-take, get_or-drop, get_or-take, get_or_default, take_min}
use Rattle.std.{proofs.lemmas.Option.{get_or_from_slice_get}, specs.List.{filter}}
use Rattle.run_laws.proofs.ReachLemmas.{reach_from, reach_until, first_next}
use Rattle.run_laws.proofs.TurnLemmas.{filter_none, length-numbered}
use Rattle.run_laws.specs.Phases.{is_split, reach, first_of, quota}
use Rattle.run_laws.specs.Turns.{numbered, given, reaching}

take_none : {X : Type 0} (n : ℕ) → take {A = X} n [] ≡ []
take_none zero = refl
take_none (suc n) = refl

module _ {R : Type 0} (test : ℕ → Bool) (a n : ℕ) (inside : (i : ℕ) → a ≤ i → i < a + n → test i ≡ true) (below : (i : ℕ) → i < a → test i ≡ false) (above : (i : ℕ) → a + n ≤ i → test i ≡ false) where
  part_within : (m k : ℕ) (rs : List R) → a ≤ k → k + m ≡ a + n → filter (λ call. test call.0) (numbered k rs) ≡ take m (numbered k rs)
  part_within zero k rs from is = filter_none (λ call. test call.0) k rs (λ i r le. above i (omega arith))
  part_within (suc m) k [] from is = refl
  part_within (suc m) k (r ∷ rs) from is =
      cond-true (test k) _ _ (inside k from (omega arith)) ∙ ap (λ xs. (k, r) ∷ xs) (part_within m (suc k) rs (omega arith) (omega arith))

  part_before : (m k : ℕ) (rs : List R) → k + m ≡ a → filter (λ call. test call.0) (numbered k rs) ≡ take n (drop m (numbered k rs))
  part_before zero k rs is = part_within n k rs (omega arith) (omega arith)
  part_before (suc m) k [] is = sym (take_none n)
  part_before (suc m) k (r ∷ rs) is = cond-false (test k) _ _ (below k (omega arith)) ∙ part_before m (suc k) rs (omega arith)

module _ {R : Type 0} (j s : ℕ) (some : 0 < j + s) (p : ℕ) where
  -- WHAT THE QUOTA GIVES IS WHAT REACHES THE PHASE
  pub given_reaches : (script : List R) → given j s p script ≡ reaching (reach j s) p script
  given_reaches script =
      let next : first_of j s (suc p) ≡ first_of j s p + cond (is_split p) s j = first_next j s some p in
      let len : length (drop (first_of j s p) (numbered 0 script)) ≡ length script - first_of j s p =
      length-drop (first_of j s p) (numbered 0 script) ∙ ap (λ m. m - first_of j s p) (length-numbered 0 script) in
      ap (λ m. take (min (cond (is_split p) s j) m) (drop (first_of j s p) (numbered 0 script))) (sym len)
      ∙ take_min (cond (is_split p) s j) (drop (first_of j s p) (numbered 0 script))
      ∙ sym (part_before {R = R} (λ i. reach j s i == p) (first_of j s p) (cond (is_split p) s j)
      (λ i from until. eq-eqb (reach j s i) p
      (let low : p ≤ reach j s i = reach_from j s some p i from in
      let high : reach j s i < suc p = reach_until j s some (suc p) i (omega arith) in omega arith))
      (λ i less. ne_eqb (reach j s i) p (λ (e : reach j s i ≡ p). let high : reach j s i < p = reach_until j s some p i less in omega arith))
      (λ i more. ne_eqb (reach j s i) p (λ (e : reach j s i ≡ p). let low : suc p ≤ reach j s i = reach_from j s some (suc p) i (omega arith) in omega arith))
      (first_of j s p) 0 script (omega arith))

-- THE WORKER'S LOOP: how many requests a phase gives, and the next of them

get_or-numbered : {R : Type 0} (k n : ℕ) (rs : List R) (d : R) → n < length rs → get_or (numbered k rs) n (k, d) ≡ (k + n, get_or rs n d)
get_or-numbered k n [] d within = absurd (omega arith)
get_or-numbered k zero (r ∷ rs) d within = let e : k ≡ k + 0 = omega arith in ap (λ m. (m, r)) e
get_or-numbered k (suc n) (r ∷ rs) d within =
    get_or_default (numbered (suc k) rs) n (k, d) (suc k, d) (let e = length-numbered (suc k) rs in omega arith)
    ∙ get_or-numbered (suc k) n rs d (omega arith)
    ∙ (let e : suc k + n ≡ k + suc n = omega arith in ap (λ m. (m, get_or rs n d)) e)

pub given_length : {R : Type 0} (j s p : ℕ) (script : List R) → length (given j s p script) ≡ quota j s p (length script)
given_length j s p script =
    let e : length (drop (first_of j s p) (numbered 0 script)) ≡ length script - first_of j s p =
    length-drop (first_of j s p) (numbered 0 script) ∙ ap (λ m. m - first_of j s p) (length-numbered 0 script) in
    length-take (quota j s p (length script)) (drop (first_of j s p) (numbered 0 script)) ∙ omega arith

-- of so many calls from an index on, after k of them the next is the request k after the first
pub next_call : {R : Type 0} (first count k : ℕ) (script : List R) (r : R) → k < count → count ≤ length script - first → r ≡ get_or script (first + k) r →
    take (k + 1) (take count (drop first (numbered 0 script))) ≡ take k (take count (drop first (numbered 0 script))) ++ (first + k, r) ∷ []
next_call first count k script r less within is =
    let e : length (drop first (numbered 0 script)) ≡ length script - first =
    length-drop first (numbered 0 script) ∙ ap (λ m. m - first) (length-numbered 0 script) in
    let len : length (take count (drop first (numbered 0 script))) ≡ count = length-take count (drop first (numbered 0 script)) ∙ omega arith in
    let more : k + 1 ≡ suc k = omega arith in
    ap (λ n. take n (take count (drop first (numbered 0 script)))) more
    ∙ take-suc (take count (drop first (numbered 0 script))) k (0, r) (omega arith)
    ∙ ap (λ call. take k (take count (drop first (numbered 0 script))) ++ call ∷ [])
    (get_or-take count (drop first (numbered 0 script)) k (0, r) less
    ∙ get_or-drop first (numbered 0 script) k (0, r)
    ∙ get_or-numbered 0 (first + k) script r (omega arith)
    ∙ (let e : 0 + (first + k) ≡ first + k = omega arith in ap (λ m. (m, get_or script (first + k) r)) e)
    ∙ ap (λ x. (first + k, x)) (sym is))

-- after k of them the next is the script's request k after the first
pub given_next : {R : Type 0} (j s p k : ℕ) (script : List R) (r : R) → k < quota j s p (length script) → slice_get script (first_of j s p + k) ≡ Some r →
    take (k + 1) (given j s p script) ≡ take k (given j s p script) ++ (first_of j s p + k, r) ∷ []
given_next j s p k script r less is = next_call (first_of j s p) (quota j s p (length script)) k script r less (omega arith) (sym (get_or_from_slice_get script (first_of j s p + k) r r is))
