-- The hot sets and the numbers of the phases so far.
use Rattle.std.proofs.Common.{◌≡◌, ℕ, zero, suc, ◌+◌, ◌-◌, ◌<◌, ◌≤◌, ◌==◌, ◌⊎◌, true, false, List, [], ◌∷◌, ◌++◌, length, refl, subst, sym, ap, ◌∙◌, inl, inr, arith, eq-eqb}
use Rattle.std.proofs.lemmas.Bool.{ne_eqb, cases_eq, cases_order, cond-true}
use Rattle.std.proofs.lemmas.List.{Elements.{filter-append}, length-append, append-nil}
use Rattle.std.specs.List.{AllByRecursion}
use Rattle.auction_rows.specs.{Choosing.{choose}, Phases.{IsNumbered}}
use Rattle.auction_rows.specs.declared.{limits.Policy.Policy, values.Opening.Opening, requests.Object.Object, requests.Request.Request, rows.Entry.Entry}
use Rattle.phase_laws.proofs.{ListLemmas.{filter_false}, OrderLemmas.{all-weaker}}
use Rattle.run_laws.{proofs.CommitLemmas.{hot_at_end, hot_elsewhere}, specs.Phases.{is_split}}
use Rattle.run_laws.specs.Run.{HasRun, IsPhasePerformed, AreChosen}
use Rattle.run_laws.specs.Serving.{hot_in, segment_of, AreNumbered}

nothing_follows : {X : Type 0} (xs : List X) (x : X) (ys : List X) → [] ≡ xs ++ (x ∷ ys) → ⊥
nothing_follows [] x ys e = cc
nothing_follows (z ∷ xs) x ys e = cc

pub nothing_numbered : (opening : Opening) (shards : ℕ) (hot : List Object) → IsNumbered opening shards hot []
nothing_numbered opening shards hot = record { ascending = tt; follows = λ earlier x later e. absurd (nothing_follows earlier x later e) }

pub none_chosen : (policy : Policy) → AreChosen policy [] []
none_chosen policy = record {
  joined = λ phase less joined. absurd (omega arith);
  split = λ phase less split. absurd (omega arith);
}

pub none_numbered : (opening : Opening) (policy : Policy) → AreNumbered opening policy [] []
none_numbered opening policy phase = nothing_numbered opening policy.shards []

segment_none : (q : ℕ) (entries : List Entry) → AllByRecursion (λ e. e.phase ≡ q → ⊥) entries → segment_of q entries ≡ []
segment_none q entries none = filter_false (λ e. e.phase == q) entries (all-weaker (λ e. e.phase ≡ q → ⊥) (λ e. (e.phase == q) ≡ false) (λ e other. ne_eqb e.phase q other) entries none)

segment_all : (q : ℕ) (entries : List Entry) → AllByRecursion (λ e. e.phase ≡ q) entries → segment_of q entries ≡ entries
segment_all q [] all = refl
segment_all q (e ∷ es) all = cond-true (e.phase == q) _ _ (eq-eqb e.phase q all.0) ∙ ap (λ xs. e ∷ xs) (segment_all q es all.1)

module _ (p : ℕ) (history segment : List Entry) (before : AllByRecursion (λ e. e.phase < p) history) (now : AllByRecursion (λ e. e.phase ≡ p) segment) where
  pub segment_now : segment_of p (history ++ segment) ≡ segment
  segment_now = filter-append (λ e. e.phase == p) history segment
      ∙ ap (λ xs. xs ++ segment_of p segment) (segment_none p history (all-weaker (λ e. e.phase < p) (λ e. e.phase ≡ p → ⊥) (λ e less same. omega arith) history before))
      ∙ segment_all p segment now

  segment_elsewhere : (q : ℕ) → (q ≡ p → ⊥) → segment_of q (history ++ segment) ≡ segment_of q history
  segment_elsewhere q other = filter-append (λ e. e.phase == q) history segment
      ∙ ap (λ xs. segment_of q history ++ xs) (segment_none q segment (all-weaker (λ e. e.phase ≡ p) (λ e. e.phase ≡ q → ⊥) (λ e is same. other (sym same ∙ is)) segment now))
      ∙ append-nil (segment_of q history)

module _ (policy : Policy) (scripts : List (List Request)) (p : ℕ) (hot : List (List Object)) (hot_now : List Object)
    (history segment : List Entry) (stashes after : ℕ → List (ℕ × Request))
    (run : HasRun policy scripts p hot history stashes) (phase : IsPhasePerformed policy scripts p hot_now stashes after segment) where
  old : (q : ℕ) → (q ≡ p → ⊥) → hot_in (hot ++ hot_now ∷ []) q ≡ hot_in hot q
  old q other = hot_elsewhere hot hot_now q (λ (e : length hot ≡ q). other (sym e ∙ run.phase_count))

  new : hot_in (hot ++ hot_now ∷ []) p ≡ hot_now
  new = hot_at_end hot hot_now p run.phase_count

  module _ (chosen : AreChosen policy hot history) (not_chosen_now : is_split p ≡ false → hot_now ≡ [])
      (chosen_now : is_split p ≡ true → hot_now ≡ choose (segment_of (p - 1) history) policy.threshold policy.hot_max) where
    which : (q : ℕ) → q < length (hot ++ hot_now ∷ []) → (q ≡ p) ⊎ (q < p)
    which q less = go (cases_order q p) where
      go : (q ≡ p) ⊎ ((q < p) ⊎ (p < q)) → (q ≡ p) ⊎ (q < p)
      go (inl same) = inl same
      go (inr (inl before)) = inr before
      go (inr (inr later)) =
          let e : length (hot ++ hot_now ∷ []) ≡ length hot + length (hot_now ∷ []) = length-append hot (hot_now ∷ []) in
          let f : length hot ≡ p = run.phase_count in absurd (omega arith)

    within : (q : ℕ) → q < p → q < length hot
    within q less = subst (λ n. q < n) (sym run.phase_count) less

    not_this : (q : ℕ) → q < p → q ≡ p → ⊥
    not_this q less e = omega arith

    before_split : (q : ℕ) → is_split q ≡ true → q ≤ p → q - 1 ≡ p → ⊥
    before_split zero split le e = cc
    before_split (suc q) split le e = omega arith

    pub phase_chosen : AreChosen policy (hot ++ hot_now ∷ []) (history ++ segment)
    phase_chosen = record { joined = joined; split = split } where
      joined : (q : ℕ) → q < length (hot ++ hot_now ∷ []) → is_split q ≡ false → hot_in (hot ++ hot_now ∷ []) q ≡ []
      joined q less is = go (which q less) where
        go : (q ≡ p) ⊎ (q < p) → hot_in (hot ++ hot_now ∷ []) q ≡ []
        go (inl same) = ap (hot_in (hot ++ hot_now ∷ [])) same ∙ new ∙ not_chosen_now (sym (ap is_split same) ∙ is)
        go (inr before) = old q (not_this q before) ∙ chosen.joined q (within q before) is

      split : (q : ℕ) → q < length (hot ++ hot_now ∷ []) → is_split q ≡ true →
          hot_in (hot ++ hot_now ∷ []) q ≡ choose (segment_of (q - 1) (history ++ segment)) policy.threshold policy.hot_max
      split q less is = go (which q less) where
        same_segment : q ≤ p → segment_of (q - 1) (history ++ segment) ≡ segment_of (q - 1) history
        same_segment le = segment_elsewhere p history segment run.phases_before phase.phases (q - 1) (before_split q is le)

        go : (q ≡ p) ⊎ (q < p) → hot_in (hot ++ hot_now ∷ []) q ≡ choose (segment_of (q - 1) (history ++ segment)) policy.threshold policy.hot_max
        go (inl same) =
            ap (hot_in (hot ++ hot_now ∷ [])) same ∙ new ∙ chosen_now (sym (ap is_split same) ∙ is)
            ∙ ap (λ n. choose (segment_of (n - 1) history) policy.threshold policy.hot_max) (sym same)
            ∙ ap (λ es. choose es policy.threshold policy.hot_max) (sym (same_segment (omega arith)))
        go (inr before) = old q (not_this q before) ∙ chosen.split q (within q before) is ∙ ap (λ es. choose es policy.threshold policy.hot_max) (sym (same_segment (omega arith)))

pub phase_numbered : (opening : Opening) (policy : Policy) (scripts : List (List Request)) (p : ℕ) (hot : List (List Object)) (hot_now : List Object)
    (history segment : List Entry) (stashes after : ℕ → List (ℕ × Request)) →
    HasRun policy scripts p hot history stashes → IsPhasePerformed policy scripts p hot_now stashes after segment →
    AreNumbered opening policy hot history → IsNumbered opening policy.shards hot_now segment →
    AreNumbered opening policy (hot ++ hot_now ∷ []) (history ++ segment)
phase_numbered opening policy scripts p hot hot_now history segment stashes after run phase before now q = go (cases_eq q p) where
  hot' : ℕ → List Object
  hot' = hot_in (hot ++ hot_now ∷ [])

  same_now : hot' p ≡ hot_now
  same_now = new policy scripts p hot hot_now history segment stashes after run phase

  go : (q ≡ p) ⊎ (q ≡ p → ⊥) → IsNumbered opening policy.shards (hot' q) (segment_of q (history ++ segment))
  go (inl same) = subst (λ n. IsNumbered opening policy.shards (hot' n) (segment_of n (history ++ segment))) (sym same)
      (subst (λ objects. IsNumbered opening policy.shards objects (segment_of p (history ++ segment))) (sym same_now)
      (subst (IsNumbered opening policy.shards hot_now) (sym (segment_now p history segment run.phases_before phase.phases)) now))
  go (inr other) =
      subst (λ objects. IsNumbered opening policy.shards objects (segment_of q (history ++ segment)))
      (sym (old policy scripts p hot hot_now history segment stashes after run phase q other))
      (subst (IsNumbered opening policy.shards (hot_in hot q)) (sym (segment_elsewhere p history segment run.phases_before phase.phases q other)) (before q))
