-- A script's calls, and its turns in the first phases.
use Rattle.std.proofs.Common.{◌≡◌, ℕ, zero, suc, ◌+◌, ◌<◌, ◌≤◌, ◌==◌, ◌⊎◌, ◌&&◌, nat_lt, Bool, true, cond, List, [], ◌∷◌, ◌++◌, length, slice_get, Some, refl, subst, sym, ap, ◌∙◌, inl, inr, arith, eq-eqb, eqb-true}
use Rattle.std.proofs.lemmas.Bool.{lt-ltb, le-ltb, ne_eqb, cases_lt, cases_eq, cases_order}
use Rattle.std.specs.List.{AllByRecursion}
use Rattle.phase_laws.proofs.ListLemmas.{all-append, all-left, all-right, all-both, all-any, all-unfilter, all-kept, filter_same, ordered-append, ordered-with}
use Rattle.phase_laws.proofs.OrderLemmas.{all-filter, all-weaker, ordered-filter}
use Rattle.phase_laws.specs.Order.{IsOrderedBy}
use Rattle.run_laws.proofs.CountLemmas.{how_many, count-append, count-filter, count-sum, count-same}
use Rattle.run_laws.specs.Turns.{numbered, turn, turns}

module _ {R : Type 0} where
  -- an index from k on stands once in what is numbered from k, if it is there
  count_past : (i k : ℕ) (rs : List R) → i < k → how_many (λ call. call.0 == i) (numbered k rs) ≡ 0
  count_past i k [] past = refl
  count_past i k (r ∷ rs) past =
      ap (λ b. cond b 1 0 + how_many (λ call. call.0 == i) (numbered (suc k) rs)) (ne_eqb k i (λ (e : k ≡ i). omega arith))
      ∙ omega (arith, count_past i (suc k) rs (omega arith))

  count_numbered : (i k : ℕ) (rs : List R) → k ≤ i → how_many (λ call. call.0 == i) (numbered k rs) ≡ cond (nat_lt i (k + length rs)) 1 0
  count_numbered i k [] from = sym (ap (λ b. cond b 1 0) (le-ltb i (k + 0) (omega arith)))
  count_numbered i k (r ∷ rs) from = go (cases_eq k i) (λ (more : suc k ≤ i). count_numbered i (suc k) rs more) where
    go : (k ≡ i) ⊎ (k ≡ i → ⊥) → (suc k ≤ i → how_many (λ call. call.0 == i) (numbered (suc k) rs) ≡ cond (nat_lt i (suc k + length rs)) 1 0) →
        cond (k == i) 1 0 + how_many (λ call. call.0 == i) (numbered (suc k) rs) ≡ cond (nat_lt i (k + suc (length rs))) 1 0
    go (inl same) again =
        ap (λ b. cond b 1 0 + how_many (λ call. call.0 == i) (numbered (suc k) rs)) (eq-eqb k i same)
        ∙ omega (arith, count_past i (suc k) rs (omega arith))
        ∙ sym (ap (λ b. cond b 1 0) (lt-ltb i (k + suc (length rs)) (omega arith)))
    go (inr other) again =
        let rest : how_many (λ call. call.0 == i) (numbered (suc k) rs) ≡ cond (nat_lt i (suc k + length rs)) 1 0 = again (omega arith) in
        let len : suc k + length rs ≡ k + suc (length rs) = omega arith in
        ap (λ b. cond b 1 0 + how_many (λ call. call.0 == i) (numbered (suc k) rs)) (ne_eqb k i other)
        ∙ omega arith ∙ rest ∙ ap (λ n. cond (nat_lt i n) 1 0) len

  -- each numbered request is the script's at its index
  numbered_are : (script : List R) (k : ℕ) (rs : List R) → ((i : ℕ) → slice_get script (k + i) ≡ slice_get rs i) → AllByRecursion (λ call. slice_get script call.0 ≡ Some call.1) (numbered k rs)
  numbered_are script k [] same = tt
  numbered_are script k (r ∷ rs) same = (
    subst (λ n. slice_get script n ≡ Some r) (omega arith) (same 0),
    numbered_are script (suc k) rs (λ i. subst (λ n. slice_get script n ≡ slice_get rs i) (omega arith) (same (suc i))),
  )

  -- so it is from the first on
  pub all_numbered : (script : List R) → AllByRecursion (λ call. slice_get script call.0 ≡ Some call.1) (numbered 0 script)
  all_numbered script = numbered_are script 0 script (λ i. ap (slice_get script) (omega arith))

  numbered_from : (k : ℕ) (rs : List R) → AllByRecursion (λ call. k ≤ call.0) (numbered k rs)
  numbered_from k [] = tt
  numbered_from k (r ∷ rs) = (omega arith, all-weaker (λ call. suc k ≤ call.0) (λ call. k ≤ call.0) (λ call less. omega arith) (numbered (suc k) rs) (numbered_from (suc k) rs))

  pub numbered_until : (k n : ℕ) (rs : List R) → k + length rs ≤ n → AllByRecursion (λ call. call.0 < n) (numbered k rs)
  numbered_until k n [] fits = tt
  numbered_until k n (r ∷ rs) fits = (omega arith, numbered_until (suc k) n rs (omega arith))

  numbered_rises : (k : ℕ) (rs : List R) → IsOrderedBy (λ c d. c.0 < d.0) (numbered k rs)
  numbered_rises k [] = tt
  numbered_rises k (r ∷ rs) = (all-weaker (λ call. suc k ≤ call.0) (λ call. k < call.0) (λ call less. omega arith) (numbered (suc k) rs) (numbered_from (suc k) rs), numbered_rises (suc k) rs)

  -- what holds of all calls holds of the one at an index
  pub at_index : (P : ℕ × R → Type 0) (k n : ℕ) (rs : List R) → AllByRecursion P (numbered k rs) → k ≤ n → n < k + length rs → (r : R) × P (n, r)
  at_index P k n [] h from until = absurd (omega arith)
  at_index P k n (r ∷ rs) h from until = go (cases_eq k n) (λ (more : suc k ≤ n). at_index P (suc k) n rs h.1 more (omega arith)) where
    go : (k ≡ n) ⊎ (k ≡ n → ⊥) → (suc k ≤ n → (r : R) × P (n, r)) → (r : R) × P (n, r)
    go (inl same) again = (r, subst (λ m. P (m, r)) same h.0)
    go (inr other) again = again (omega arith)

  module _ (commit : ℕ × R → ℕ) where
    pub all_turns : (P : ℕ × R → Type 0) (n : ℕ) (script : List R) → AllByRecursion P (numbered 0 script) → AllByRecursion P (turns commit n script)
    all_turns P zero script h = tt
    all_turns P (suc n) script h = all-append P (turns commit n script) (turn commit n script) (all_turns P n script h) (all-filter P (λ call. commit call == n) (numbered 0 script) h)

    pub turn_commits : (n : ℕ) (script : List R) → AllByRecursion (λ call. commit call ≡ n) (turn commit n script)
    turn_commits n script = all-weaker (λ call. (commit call == n) ≡ true) (λ call. commit call ≡ n) (λ call is. eqb-true (commit call) n is) (turn commit n script) (all-kept (λ call. commit call == n) (numbered 0 script))

    pub turns_commit : (n : ℕ) (script : List R) → AllByRecursion (λ call. commit call < n) (turns commit n script)
    turns_commit zero script = tt
    turns_commit (suc n) script = all-append (λ call. commit call < suc n) (turns commit n script) (turn commit n script)
        (all-weaker (λ call. commit call < n) (λ call. commit call < suc n) (λ call less. omega arith) (turns commit n script) (turns_commit n script))
        (all-weaker (λ call. commit call ≡ n) (λ call. commit call < suc n) (λ call same. omega arith) (turn commit n script) (turn_commits n script))

    -- what holds of the calls of the first n phases holds of all calls that commit before phase n
    pub all_from_turns : (P : ℕ × R → Type 0) (n : ℕ) (script : List R) → AllByRecursion P (turns commit n script) → AllByRecursion (λ call. commit call < n → P call) (numbered 0 script)
    all_from_turns P zero script h = all-any (λ call. commit call < zero → P call) (λ call less. absurd (omega arith)) (numbered 0 script)
    all_from_turns P (suc n) script h =
        all-weaker (λ call. (commit call < n → P call) × ((commit call == n) ≡ true → P call)) (λ call. commit call < suc n → P call)
        (λ call both less. last call both less (cases_lt (commit call) n)) (numbered 0 script)
        (all-both (λ call. commit call < n → P call) (λ call. (commit call == n) ≡ true → P call) (numbered 0 script)
        (all_from_turns P n script (all-left P (turns commit n script) (turn commit n script) h))
        (all-unfilter P (λ call. commit call == n) (numbered 0 script) (all-right P (turns commit n script) (turn commit n script) h))) where
          last : (call : ℕ × R) → (commit call < n → P call) × ((commit call == n) ≡ true → P call) → commit call < suc n → (commit call < n) ⊎ (n ≤ commit call) → P call
          last call both less (inl before) = both.0 before
          last call both less (inr from) = both.1 (eq-eqb (commit call) n (omega arith))

    -- turns are in order by phase, then index
    pub turns_ordered : (n : ℕ) (script : List R) → IsOrderedBy (λ c d. (commit c < commit d) ⊎ ((commit c ≡ commit d) × (c.0 < d.0))) (turns commit n script)
    turns_ordered zero script = tt
    turns_ordered (suc n) script =
        ordered-append (λ c d. (commit c < commit d) ⊎ ((commit c ≡ commit d) × (c.0 < d.0))) (turns commit n script) (turn commit n script) (turns_ordered n script)
        (ordered-with (λ call. commit call ≡ n) (λ c d. c.0 < d.0) (λ c d. (commit c < commit d) ⊎ ((commit c ≡ commit d) × (c.0 < d.0)))
        (λ c d is is' less. inr (is ∙ sym is', less)) (turn commit n script) (turn_commits n script)
        (ordered-filter (λ c d. c.0 < d.0) (λ call. commit call == n) (numbered 0 script) (numbered_rises 0 script)))
        (all-weaker (λ c. commit c < n) (λ c. AllByRecursion (λ d. (commit c < commit d) ⊎ ((commit c ≡ commit d) × (c.0 < d.0))) (turn commit n script))
        (λ c less. all-weaker (λ d. commit d ≡ n) (λ d. (commit c < commit d) ⊎ ((commit c ≡ commit d) × (c.0 < d.0))) (λ d is. inl (omega arith)) (turn commit n script) (turn_commits n script))
        (turns commit n script) (turns_commit n script))

    count_turns : (p : ℕ × R → Bool) (n : ℕ) (script : List R) → how_many p (turns commit n script) ≡ how_many (λ call. nat_lt (commit call) n && p call) (numbered 0 script)
    count_turns p zero script = sym (none (numbered 0 script)) where
      none : (calls : List (ℕ × R)) → how_many (λ call. nat_lt (commit call) zero && p call) calls ≡ 0
      none [] = refl
      none (call ∷ calls) = ap (λ b. cond (b && p call) 1 0 + how_many (λ c. nat_lt (commit c) zero && p c) calls) (le-ltb (commit call) 0 (omega arith)) ∙ omega (arith, none calls)
    count_turns p (suc n) script =
        count-append p (turns commit n script) (turn commit n script)
        ∙ ap (λ m. m + how_many p (turn commit n script)) (count_turns p n script)
        ∙ ap (λ m. how_many (λ call. nat_lt (commit call) n && p call) (numbered 0 script) + m) (count-filter (λ call. commit call == n) p (numbered 0 script))
        ∙ count-sum (λ call. nat_lt (commit call) n && p call) (λ call. (commit call == n) && p call) (λ call. nat_lt (commit call) (suc n) && p call)
        (λ call. adds (commit call) (p call) (cases_order (commit call) n)) (numbered 0 script) where
          adds : (m : ℕ) (b : Bool) → (m ≡ n) ⊎ ((m < n) ⊎ (n < m)) → cond (nat_lt m n && b) 1 0 + cond ((m == n) && b) 1 0 ≡ cond (nat_lt m (suc n) && b) 1 0
          adds m b (inl same) =
              ap (λ t. cond (t && b) 1 0 + cond ((m == n) && b) 1 0) (le-ltb m n (omega arith)) ∙ ap (λ t. 0 + cond (t && b) 1 0) (eq-eqb m n same)
              ∙ omega arith ∙ sym (ap (λ t. cond (t && b) 1 0) (lt-ltb m (suc n) (omega arith)))
          adds m b (inr (inl less)) =
              ap (λ t. cond (t && b) 1 0 + cond ((m == n) && b) 1 0) (lt-ltb m n less) ∙ ap (λ t. cond b 1 0 + cond (t && b) 1 0) (ne_eqb m n (λ (e : m ≡ n). omega arith))
              ∙ omega arith ∙ sym (ap (λ t. cond (t && b) 1 0) (lt-ltb m (suc n) (omega arith)))
          adds m b (inr (inr more)) =
              ap (λ t. cond (t && b) 1 0 + cond ((m == n) && b) 1 0) (le-ltb m n (omega arith)) ∙ ap (λ t. 0 + cond (t && b) 1 0) (ne_eqb m n (λ (e : m ≡ n). omega arith))
              ∙ sym (ap (λ t. cond (t && b) 1 0) (le-ltb m (suc n) more))

    -- EXACTLY ONCE: where all calls commit before phase n, each index of the script stands once in its turns
    pub once_in_turns : (n i : ℕ) (script : List R) → AllByRecursion (λ call. commit call < n) (numbered 0 script) →
        how_many (λ call. call.0 == i) (turns commit n script) ≡ cond (nat_lt i (length script)) 1 0
    once_in_turns n i script all =
        count_turns (λ call. call.0 == i) n script
        ∙ count-same (λ call. nat_lt (commit call) n && (call.0 == i)) (λ call. call.0 == i) (numbered 0 script)
        (all-weaker (λ call. commit call < n) (λ call. (nat_lt (commit call) n && (call.0 == i)) ≡ (call.0 == i)) (λ call less. ap (λ b. b && (call.0 == i)) (lt-ltb (commit call) n less)) (numbered 0 script) all)
        ∙ count_numbered i 0 script (omega arith)
        ∙ ap (λ m. cond (nat_lt i m) 1 0) (omega arith)

    -- with its request
    pub requests_in_turns : (n : ℕ) (script : List R) → AllByRecursion (λ call. slice_get script call.0 ≡ Some call.1) (turns commit n script)
    requests_in_turns n script = all_turns (λ call. slice_get script call.0 ≡ Some call.1) n script (all_numbered script)

-- another test of the phase that agrees before phase n gives the same turns
pub turns_alike : {R : Type 0} (commit commit' : ℕ × R → ℕ) (n : ℕ) (script : List R) →
    ((q : ℕ) → q < n → AllByRecursion (λ call. (commit call == q) ≡ (commit' call == q)) (numbered 0 script)) → turns commit n script ≡ turns commit' n script
turns_alike commit commit' zero script same = refl
turns_alike commit commit' (suc n) script same =
    ap (λ cs. cs ++ turn commit n script) (turns_alike commit commit' n script (λ q less. same q (omega arith)))
    ∙ ap (λ cs. turns commit' n script ++ cs) (filter_same (λ call. commit call == n) (λ call. commit' call == n) (numbered 0 script) (same n (omega arith)))
