-- What a phase commits of a script, by what waits and what reaches it.
use Rattle.std.proofs.Common.{◌≡◌, ℕ, suc, ◌+◌, ◌<◌, ◌≤◌, ◌==◌, ◌⊎◌, ◌&&◌, not, nat_lt, Bool, true, false, cond, List, [], ◌∷◌, ◌++◌, length, refl, sym, ap, ◌∙◌, inl, inr, arith, eq-eqb}
use Rattle.std.proofs.lemmas.Bool.{lt-ltb, le-ltb, ne_eqb, cases_lt, cases_order, cases_Bool, and_left, and_right, cond-false}
use Rattle.std.specs.List.{filter}
use Rattle.run_laws.{proofs.ReachLemmas.{split_then_joined}, specs.Phases.{is_split}}
use Rattle.run_laws.specs.Turns.{numbered, commits_in, turn, waiting, reaching}

pub filter_twice : {X : Type 0} (p q : X → Bool) (xs : List X) → filter q (filter p xs) ≡ filter (λ x. p x && q x) xs
filter_twice p q [] = refl
filter_twice p q (x ∷ xs) = go (p x) (filter_twice p q xs) where
  go : (b : Bool) → filter q (filter p xs) ≡ filter (λ y. p y && q y) xs →
      filter q (cond b (x ∷ filter p xs) (filter p xs)) ≡ cond (b && q x) (x ∷ filter (λ y. p y && q y) xs) (filter (λ y. p y && q y) xs)
  go true again = ap (λ ys. cond (q x) (x ∷ ys) ys) again
  go false again = again

module _ {R : Type 0} where
  pub filter_numbered : (p q : ℕ × R → Bool) (k : ℕ) (rs : List R) → ((i : ℕ) (r : R) → k ≤ i → p (i, r) ≡ q (i, r)) →
      filter p (numbered k rs) ≡ filter q (numbered k rs)
  filter_numbered p q k [] same = refl
  filter_numbered p q k (r ∷ rs) same =
      ap (λ b. cond b ((k, r) ∷ filter p (numbered (suc k) rs)) (filter p (numbered (suc k) rs))) (same k r (omega arith))
      ∙ ap (λ cs. cond (q (k, r)) ((k, r) ∷ cs) cs) (filter_numbered p q (suc k) rs (λ i x le. same i x (omega arith)))

  pub filter_none : (p : ℕ × R → Bool) (k : ℕ) (rs : List R) → ((i : ℕ) (r : R) → k ≤ i → p (i, r) ≡ false) → filter p (numbered k rs) ≡ []
  filter_none p k [] none = refl
  filter_none p k (r ∷ rs) none = cond-false (p (k, r)) _ _ (none k r (omega arith)) ∙ filter_none p (suc k) rs (λ i x le. none i x (omega arith))

  pub length-numbered : (k : ℕ) (rs : List R) → length (numbered k rs) ≡ length rs
  length-numbered k [] = refl
  length-numbered k (r ∷ rs) = ap suc (length-numbered (suc k) rs)

module _ {R : Type 0} (reach : ℕ → ℕ) (held : ℕ → R → Bool) where
  pub commit_from : (call : ℕ × R) → reach call.0 ≤ commits_in reach held call
  commit_from call = omega arith

  extra : (b : Bool) → cond b 1 0 ≤ 1
  extra true = omega arith
  extra false = omega arith

  pub commit_until : (call : ℕ × R) → commits_in reach held call ≤ suc (reach call.0)
  commit_until call = let one : cond (is_split (reach call.0) && held (reach call.0) call.1) 1 0 ≤ 1 = extra (is_split (reach call.0) && held (reach call.0) call.1) in omega arith

  pub commit_joined : (call : ℕ × R) → is_split (reach call.0) ≡ false → commits_in reach held call ≡ reach call.0
  commit_joined call is = ap (λ b. reach call.0 + cond b 1 0) (and_left (is_split (reach call.0)) (held (reach call.0) call.1) is) ∙ omega arith

  pub commit_free : (call : ℕ × R) → held (reach call.0) call.1 ≡ false → commits_in reach held call ≡ reach call.0
  commit_free call is = ap (λ b. reach call.0 + cond b 1 0) (and_right (is_split (reach call.0)) (held (reach call.0) call.1) is) ∙ omega arith

  pub commit_held : (call : ℕ × R) → is_split (reach call.0) ≡ true → held (reach call.0) call.1 ≡ true → commits_in reach held call ≡ suc (reach call.0)
  commit_held call is h = ap (λ b. reach call.0 + cond (b && held (reach call.0) call.1) 1 0) is ∙ ap (λ b. reach call.0 + cond b 1 0) h ∙ omega arith

  module _ (p : ℕ) where
    -- a call that commits in a later phase than it reaches reached a split phase
    late_is_split : (call : ℕ × R) → reach call.0 < commits_in reach held call → is_split (reach call.0) ≡ true
    late_is_split call less = go (cases_Bool (is_split (reach call.0))) where
      go : (is_split (reach call.0) ≡ true) ⊎ (is_split (reach call.0) ≡ false) → is_split (reach call.0) ≡ true
      go (inl is) = is
      go (inr is) = let e : commits_in reach held call ≡ reach call.0 = commit_joined call is in absurd (omega arith)

    -- in a joined phase or later: who commits in p reaches p
    joined_test : is_split p ≡ false → (call : ℕ × R) → p ≤ reach call.0 → (commits_in reach held call == p) ≡ (reach call.0 == p)
    joined_test joined call from = go (cases_order (reach call.0) p) where
      go : (reach call.0 ≡ p) ⊎ ((reach call.0 < p) ⊎ (p < reach call.0)) → (commits_in reach held call == p) ≡ (reach call.0 == p)
      go (inl same) = ap (λ n. n == p) (commit_joined call (ap is_split same ∙ joined))
      go (inr (inl less)) = absurd (omega arith)
      go (inr (inr more)) =
          let c : reach call.0 ≤ commits_in reach held call = commit_from call in
          ne_eqb (commits_in reach held call) p (λ (e : commits_in reach held call ≡ p). omega arith) ∙ sym (ne_eqb (reach call.0) p (λ (e : reach call.0 ≡ p). omega arith))

    -- in a split phase: who commits in p reaches it and isn't held back
    split_test : is_split p ≡ true → (call : ℕ × R) → (commits_in reach held call == p) ≡ ((reach call.0 == p) && not (held p call.1))
    split_test split call = go (cases_order (reach call.0) p) where
      at : reach call.0 ≡ p → (held p call.1 ≡ true) ⊎ (held p call.1 ≡ false) → (commits_in reach held call == p) ≡ ((reach call.0 == p) && not (held p call.1))
      at same (inl is) =
          let c : commits_in reach held call ≡ suc (reach call.0) = commit_held call (ap is_split same ∙ split) (ap (λ n. held n call.1) same ∙ is) in
          ne_eqb (commits_in reach held call) p (λ (e : commits_in reach held call ≡ p). omega arith)
          ∙ sym (and_right (reach call.0 == p) (not (held p call.1)) (ap not is))
      at same (inr is) =
          let c : commits_in reach held call ≡ reach call.0 = commit_free call (ap (λ n. held n call.1) same ∙ is) in
          ap (λ n. n == p) c ∙ eq-eqb (reach call.0) p same
          ∙ sym (ap (λ b. b && not (held p call.1)) (eq-eqb (reach call.0) p same) ∙ ap not is)

      go : (reach call.0 ≡ p) ⊎ ((reach call.0 < p) ⊎ (p < reach call.0)) → (commits_in reach held call == p) ≡ ((reach call.0 == p) && not (held p call.1))
      go (inl same) = at same (cases_Bool (held p call.1))
      go (inr (inl less)) =
          ne_eqb (commits_in reach held call) p (λ (e : commits_in reach held call ≡ p).
          let up : commits_in reach held call ≤ suc (reach call.0) = commit_until call in
          let last : suc (reach call.0) ≡ p = omega arith in
          let odd : is_split (reach call.0) ≡ true = late_is_split call (omega arith) in
          let even : is_split p ≡ false = ap is_split (sym last) ∙ split_then_joined (reach call.0) odd in
          let both : true ≡ false = sym split ∙ even in cc)
          ∙ sym (and_left (reach call.0 == p) (not (held p call.1)) (ne_eqb (reach call.0) p (λ (e : reach call.0 ≡ p). omega arith)))
      go (inr (inr more)) =
          let c : reach call.0 ≤ commits_in reach held call = commit_from call in
          ne_eqb (commits_in reach held call) p (λ (e : commits_in reach held call ≡ p). omega arith)
          ∙ sym (and_left (reach call.0 == p) (not (held p call.1)) (ne_eqb (reach call.0) p (λ (e : reach call.0 ≡ p). omega arith)))

    -- after a split phase: who waits reached it and was held back
    waits_test : is_split p ≡ true → (call : ℕ × R) →
        (nat_lt (reach call.0) (suc p) && (commits_in reach held call == suc p)) ≡ ((reach call.0 == p) && held p call.1)
    waits_test split call = go (cases_order (reach call.0) p) where
      at : reach call.0 ≡ p → (held p call.1 ≡ true) ⊎ (held p call.1 ≡ false) →
          (nat_lt (reach call.0) (suc p) && (commits_in reach held call == suc p)) ≡ ((reach call.0 == p) && held p call.1)
      at same (inl is) =
          let c : commits_in reach held call ≡ suc (reach call.0) = commit_held call (ap is_split same ∙ split) (ap (λ n. held n call.1) same ∙ is) in
          ap (λ b. b && (commits_in reach held call == suc p)) (lt-ltb (reach call.0) (suc p) (omega arith))
          ∙ eq-eqb (commits_in reach held call) (suc p) (omega arith)
          ∙ sym (ap (λ b. b && held p call.1) (eq-eqb (reach call.0) p same) ∙ is)
      at same (inr is) =
          let c : commits_in reach held call ≡ reach call.0 = commit_free call (ap (λ n. held n call.1) same ∙ is) in
          and_right (nat_lt (reach call.0) (suc p)) (commits_in reach held call == suc p)
          (ne_eqb (commits_in reach held call) (suc p) (λ (e : commits_in reach held call ≡ suc p). omega arith))
          ∙ sym (and_right (reach call.0 == p) (held p call.1) is)

      go : (reach call.0 ≡ p) ⊎ ((reach call.0 < p) ⊎ (p < reach call.0)) →
          (nat_lt (reach call.0) (suc p) && (commits_in reach held call == suc p)) ≡ ((reach call.0 == p) && held p call.1)
      go (inl same) = at same (cases_Bool (held p call.1))
      go (inr (inl less)) =
          let up : commits_in reach held call ≤ suc (reach call.0) = commit_until call in
          and_right (nat_lt (reach call.0) (suc p)) (commits_in reach held call == suc p)
          (ne_eqb (commits_in reach held call) (suc p) (λ (e : commits_in reach held call ≡ suc p). omega arith))
          ∙ sym (and_left (reach call.0 == p) (held p call.1) (ne_eqb (reach call.0) p (λ (e : reach call.0 ≡ p). omega arith)))
      go (inr (inr more)) =
          and_left (nat_lt (reach call.0) (suc p)) (commits_in reach held call == suc p) (le-ltb (reach call.0) (suc p) (omega arith))
          ∙ sym (and_left (reach call.0 == p) (held p call.1) (ne_eqb (reach call.0) p (λ (e : reach call.0 ≡ p). omega arith)))

    -- after a joined phase nobody waits
    none_waits_test : is_split p ≡ false → (call : ℕ × R) → (nat_lt (reach call.0) (suc p) && (commits_in reach held call == suc p)) ≡ false
    none_waits_test joined call = go (cases_lt (reach call.0) (suc p)) where
      go : (reach call.0 < suc p) ⊎ (suc p ≤ reach call.0) → (nat_lt (reach call.0) (suc p) && (commits_in reach held call == suc p)) ≡ false
      go (inl less) =
          and_right (nat_lt (reach call.0) (suc p)) (commits_in reach held call == suc p)
          (ne_eqb (commits_in reach held call) (suc p) (λ (e : commits_in reach held call ≡ suc p).
          let up : commits_in reach held call ≤ suc (reach call.0) = commit_until call in
          let last : reach call.0 ≡ p = omega arith in
          let odd : is_split (reach call.0) ≡ true = late_is_split call (omega arith) in
          let both : true ≡ false = sym odd ∙ ap is_split last ∙ joined in cc))
      go (inr more) = and_left (nat_lt (reach call.0) (suc p)) (commits_in reach held call == suc p) (le-ltb (reach call.0) (suc p) more)

    -- WHAT A SPLIT PHASE COMMITS: what reaches it and isn't held back
    pub split_turn : is_split p ≡ true → (script : List R) → turn (commits_in reach held) p script ≡ filter (λ call. not (held p call.1)) (reaching reach p script)
    split_turn split script =
        filter_numbered (λ call. commits_in reach held call == p) (λ call. (reach call.0 == p) && not (held p call.1)) 0 script (λ i r le. split_test split (i, r))
        ∙ sym (filter_twice (λ call. reach call.0 == p) (λ call. not (held p call.1)) (numbered 0 script))

    -- WHAT WAITS AFTER IT: what reaches it and is held back
    pub waiting_next : is_split p ≡ true → (script : List R) → waiting reach (commits_in reach held) (suc p) script ≡ filter (λ call. held p call.1) (reaching reach p script)
    waiting_next split script =
        filter_numbered (λ call. nat_lt (reach call.0) (suc p) && (commits_in reach held call == suc p)) (λ call. (reach call.0 == p) && held p call.1) 0 script (λ i r le. waits_test split (i, r))
        ∙ sym (filter_twice (λ call. reach call.0 == p) (λ call. held p call.1) (numbered 0 script))

    pub waiting_none : is_split p ≡ false → (script : List R) → waiting reach (commits_in reach held) (suc p) script ≡ []
    waiting_none joined script =
        filter_none (λ call. nat_lt (reach call.0) (suc p) && (commits_in reach held call == suc p)) 0 script (λ i r le. none_waits_test joined (i, r))

    -- WHAT A JOINED PHASE COMMITS: what waits, then what reaches it
    module _ (rises : (k l : ℕ) → k ≤ l → reach k ≤ reach l) where
      joined_from : is_split p ≡ false → (k : ℕ) (rs : List R) →
          filter (λ call. commits_in reach held call == p) (numbered k rs) ≡
          filter (λ call. nat_lt (reach call.0) p && (commits_in reach held call == p)) (numbered k rs) ++ filter (λ call. reach call.0 == p) (numbered k rs)
      joined_from joined k [] = refl
      joined_from joined k (r ∷ rs) = go (cases_lt (reach k) p) (joined_from joined (suc k) rs) where
        put : (b : Bool) → (fs ws qs : List (ℕ × R)) → fs ≡ ws ++ qs → cond b ((k, r) ∷ fs) fs ≡ cond b ((k, r) ∷ ws) ws ++ qs
        put true fs ws qs e = ap (λ xs. (k, r) ∷ xs) e
        put false fs ws qs e = e

        go : (reach k < p) ⊎ (p ≤ reach k) → filter (λ call. commits_in reach held call == p) (numbered (suc k) rs) ≡
            filter (λ call. nat_lt (reach call.0) p && (commits_in reach held call == p)) (numbered (suc k) rs) ++ filter (λ call. reach call.0 == p) (numbered (suc k) rs) →
            filter (λ call. commits_in reach held call == p) (numbered k (r ∷ rs)) ≡
            filter (λ call. nat_lt (reach call.0) p && (commits_in reach held call == p)) (numbered k (r ∷ rs)) ++ filter (λ call. reach call.0 == p) (numbered k (r ∷ rs))
        go (inl less) again =
            put (commits_in reach held (k, r) == p) _ _ _ again
            ∙ ap (λ b. cond (b && (commits_in reach held (k, r) == p)) ((k, r) ∷ filter (λ call. nat_lt (reach call.0) p && (commits_in reach held call == p)) (numbered (suc k) rs)) (filter (λ call. nat_lt (reach call.0) p && (commits_in reach held call == p)) (numbered (suc k) rs)) ++ filter (λ call. reach call.0 == p) (numbered (suc k) rs)) (sym (lt-ltb (reach k) p less))
            ∙ ap (λ qs. filter (λ call. nat_lt (reach call.0) p && (commits_in reach held call == p)) (numbered k (r ∷ rs)) ++ qs)
            (sym (cond-false (reach k == p) _ _ (ne_eqb (reach k) p (λ (e : reach k ≡ p). omega arith))))
        go (inr from) again =
            let above : (i : ℕ) → k ≤ i → p ≤ reach i = λ i le. (let up : reach k ≤ reach i = rises k i le in omega arith) in
            filter_numbered (λ call. commits_in reach held call == p) (λ call. reach call.0 == p) k (r ∷ rs) (λ i x le. joined_test joined (i, x) (above i le))
            ∙ ap (λ ws. ws ++ filter (λ call. reach call.0 == p) (numbered k (r ∷ rs)))
            (sym (filter_none (λ call. nat_lt (reach call.0) p && (commits_in reach held call == p)) k (r ∷ rs)
            (λ i x le. and_left (nat_lt (reach i) p) _ (le-ltb (reach i) p (above i le)))))

      pub joined_turn : is_split p ≡ false → (script : List R) →
          turn (commits_in reach held) p script ≡ waiting reach (commits_in reach held) p script ++ reaching reach p script
      joined_turn joined script = joined_from joined 0 script
