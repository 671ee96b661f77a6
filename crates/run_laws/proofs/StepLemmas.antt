-- Where a run begins, and what one phase adds to what is done.
use Rattle.std.proofs.Common.{◌≡◌, ℕ, suc, ◌+◌, ◌<◌, ◌≤◌, ◌==◌, ◌⊎◌, ◌&&◌, not, nat_lt, true, false, cond, List, [], ◌∷◌, ◌++◌, length, refl, subst, sym, ap, ◌∙◌, inl, inr, arith}
use Rattle.std.proofs.lemmas.Bool.{le-ltb, ne_eqb, cases_lt, cases_Bool, and_left, and_right}
use Rattle.std.{proofs.lemmas.List.{length-append}, specs.List.{filter, AllByRecursion}}
use Rattle.auction_rows.specs.Phases.{is_put_off}
use Rattle.auction_rows.specs.declared.{limits.Policy.Policy, requests.Object.Object, requests.Request.Request, rows.Entry.Entry}
use Rattle.phase_laws.proofs.ListLemmas.{all-append, all-both, filter_false, filter_same, all-any, ordered-append}
use Rattle.phase_laws.proofs.OrderLemmas.{all-weaker}
use Rattle.run_laws.proofs.CallLemmas.{at_index, turn_commits, turns_alike}
use Rattle.run_laws.proofs.CommitLemmas.{ordered_all, calls-append, of_calls, from, hot_at_end, hot_elsewhere}
use Rattle.run_laws.proofs.{QuotaLemmas.{given_reaches}, ReachLemmas.{reach_from, reach_rises}}
use Rattle.run_laws.proofs.TurnLemmas.{filter_none, split_turn, waiting_next, waiting_none, joined_turn}
use Rattle.run_laws.specs.Phases.{is_split}
use Rattle.run_laws.specs.Run.{calls_of, first_index, calls_given, HasRun, IsPhasePerformed, HasLeft}
use Rattle.run_laws.specs.Serving.{call_of, script_of, hot_in, phase_reached, commit_phase}
use Rattle.run_laws.specs.Turns.{numbered, turn, turns, waiting, reaching}

pub run_begins : (policy : Policy) (scripts : List (List Request)) → HasRun policy scripts 0 [] [] (λ w. [])
run_begins policy scripts = record {
  phase_count = refl;
  done = λ w. refl;
  stashed = λ w. sym (filter_none (λ call. nat_lt (phase_reached policy call.0) 0 && (commit_phase policy [] call == 0)) 0 (script_of scripts w)
      (λ i r le. and_left (nat_lt (phase_reached policy i) 0) (commit_phase policy [] (i, r) == 0) (le-ltb (phase_reached policy i) 0 (omega arith))));
  phases = tt;
  phases_before = tt;
  phases_rise = tt;
  needed = λ n all. omega arith;
}

module _ (policy : Policy) (some : 0 < policy.joined_quota + policy.split_quota) (scripts : List (List Request)) where
  -- ONE PHASE MORE
  module _ (p : ℕ) (hot : List (List Object)) (hot_now : List Object) (history segment : List Entry) (stashes after : ℕ → List (ℕ × Request))
      (run : HasRun policy scripts p hot history stashes) (phase : IsPhasePerformed policy scripts p hot_now stashes after segment) where
    pub same_before : (q : ℕ) → q < p → hot_in (hot ++ hot_now ∷ []) q ≡ hot_in hot q
    same_before q less = hot_elsewhere hot hot_now q (let e : length hot ≡ p = run.phase_count in λ (same : length hot ≡ q). omega arith)

    pub same_now : hot_in (hot ++ hot_now ∷ []) p ≡ hot_now
    same_now = hot_at_end hot hot_now p run.phase_count

    same_commit : (call : ℕ × Request) → phase_reached policy call.0 < p → commit_phase policy (hot ++ hot_now ∷ []) call ≡ commit_phase policy hot call
    same_commit call less = ap (λ objects. phase_reached policy call.0 + cond (is_split (phase_reached policy call.0) && is_put_off objects call.1) 1 0) (same_before (phase_reached policy call.0) less)

    same_test : (q : ℕ) → q < p → (call : ℕ × Request) → (commit_phase policy hot call == q) ≡ (commit_phase policy (hot ++ hot_now ∷ []) call == q)
    same_test q less call = go (cases_lt (phase_reached policy call.0) p) where
      go : (phase_reached policy call.0 < p) ⊎ (p ≤ phase_reached policy call.0) → (commit_phase policy hot call == q) ≡ (commit_phase policy (hot ++ hot_now ∷ []) call == q)
      go (inl before) = ap (λ n. n == q) (sym (same_commit call before))
      go (inr later) =
          let a : phase_reached policy call.0 ≤ commit_phase policy hot call = from policy hot call in
          let b : phase_reached policy call.0 ≤ commit_phase policy (hot ++ hot_now ∷ []) call = from policy (hot ++ hot_now ∷ []) call in
          ne_eqb (commit_phase policy hot call) q (λ (e : commit_phase policy hot call ≡ q). omega arith)
          ∙ sym (ne_eqb (commit_phase policy (hot ++ hot_now ∷ []) call) q (λ (e : commit_phase policy (hot ++ hot_now ∷ []) call ≡ q). omega arith))

    same_wait : (call : ℕ × Request) → (nat_lt (phase_reached policy call.0) p && (commit_phase policy hot call == p)) ≡ (nat_lt (phase_reached policy call.0) p && (commit_phase policy (hot ++ hot_now ∷ []) call == p))
    same_wait call = go (cases_lt (phase_reached policy call.0) p) where
      go : (phase_reached policy call.0 < p) ⊎ (p ≤ phase_reached policy call.0) → (nat_lt (phase_reached policy call.0) p && (commit_phase policy hot call == p)) ≡ (nat_lt (phase_reached policy call.0) p && (commit_phase policy (hot ++ hot_now ∷ []) call == p))
      go (inl before) = ap (λ n. nat_lt (phase_reached policy call.0) p && (n == p)) (sym (same_commit call before))
      go (inr later) =
          and_left (nat_lt (phase_reached policy call.0) p) (commit_phase policy hot call == p) (le-ltb (phase_reached policy call.0) p later)
          ∙ sym (and_left (nat_lt (phase_reached policy call.0) p) (commit_phase policy (hot ++ hot_now ∷ []) call == p) (le-ltb (phase_reached policy call.0) p later))

    waiting_same : (w : ℕ) → stashes w ≡ waiting (phase_reached policy) (commit_phase policy (hot ++ hot_now ∷ [])) p (script_of scripts w)
    waiting_same w = run.stashed w ∙ filter_same (λ call. nat_lt (phase_reached policy call.0) p && (commit_phase policy hot call == p)) (λ call. nat_lt (phase_reached policy call.0) p && (commit_phase policy (hot ++ hot_now ∷ []) call == p))
        (numbered 0 (script_of scripts w)) (all-any _ same_wait (numbered 0 (script_of scripts w)))

    given_is : (w : ℕ) → calls_given policy p (script_of scripts w) ≡ reaching (phase_reached policy) p (script_of scripts w)
    given_is w = given_reaches policy.joined_quota policy.split_quota some p (script_of scripts w)

    segment_turn : (w : ℕ) → calls_of w segment ≡ turn (commit_phase policy (hot ++ hot_now ∷ [])) p (script_of scripts w)
    segment_turn w = go (cases_Bool (is_split p)) where
      go : (is_split p ≡ true) ⊎ (is_split p ≡ false) → calls_of w segment ≡ turn (commit_phase policy (hot ++ hot_now ∷ [])) p (script_of scripts w)
      go (inl split) =
          phase.split_calls split w
          ∙ ap (λ objects. filter (λ call. not (is_put_off objects call.1)) (calls_given policy p (script_of scripts w))) (sym same_now)
          ∙ ap (filter (λ call. not (is_put_off (hot_in (hot ++ hot_now ∷ []) p) call.1))) (given_is w)
          ∙ sym (split_turn (phase_reached policy) (λ q request. is_put_off (hot_in (hot ++ hot_now ∷ []) q) request) p split (script_of scripts w))
      go (inr joined) =
          phase.joined_calls joined w
          ∙ ap (λ calls. calls ++ calls_given policy p (script_of scripts w)) (waiting_same w)
          ∙ ap (λ calls. waiting (phase_reached policy) (commit_phase policy (hot ++ hot_now ∷ [])) p (script_of scripts w) ++ calls) (given_is w)
          ∙ sym (joined_turn (phase_reached policy) (λ q request. is_put_off (hot_in (hot ++ hot_now ∷ []) q) request) p (reach_rises policy.joined_quota policy.split_quota some) joined (script_of scripts w))

    after_is : (w : ℕ) → after w ≡ waiting (phase_reached policy) (commit_phase policy (hot ++ hot_now ∷ [])) (suc p) (script_of scripts w)
    after_is w = go (cases_Bool (is_split p)) where
      go : (is_split p ≡ true) ⊎ (is_split p ≡ false) → after w ≡ waiting (phase_reached policy) (commit_phase policy (hot ++ hot_now ∷ [])) (suc p) (script_of scripts w)
      go (inl split) =
          phase.split_stash split w
          ∙ ap (λ objects. filter (λ call. is_put_off objects call.1) (calls_given policy p (script_of scripts w))) (sym same_now)
          ∙ ap (filter (λ call. is_put_off (hot_in (hot ++ hot_now ∷ []) p) call.1)) (given_is w)
          ∙ sym (waiting_next (phase_reached policy) (λ q request. is_put_off (hot_in (hot ++ hot_now ∷ []) q) request) p split (script_of scripts w))
      go (inr joined) =
          phase.joined_stash joined w
          ∙ sym (waiting_none (phase_reached policy) (λ q request. is_put_off (hot_in (hot ++ hot_now ∷ []) q) request) p joined (script_of scripts w))

    segment_commits : AllByRecursion (λ e. commit_phase policy (hot ++ hot_now ∷ []) (call_of e) ≡ p) segment
    segment_commits = of_calls (λ call. commit_phase policy (hot ++ hot_now ∷ []) call ≡ p) segment
        (λ w. subst (AllByRecursion (λ call. commit_phase policy (hot ++ hot_now ∷ []) call ≡ p)) (sym (segment_turn w)) (turn_commits (commit_phase policy (hot ++ hot_now ∷ [])) p (script_of scripts w)))

    still_in_phase : (e : Entry) → e.phase ≡ commit_phase policy hot (call_of e) → e.phase < p → e.phase ≡ commit_phase policy (hot ++ hot_now ∷ []) (call_of e)
    still_in_phase e is less =
        let low : phase_reached policy e.index ≤ commit_phase policy hot (call_of e) = from policy hot (call_of e) in
        is ∙ sym (same_commit (call_of e) (omega arith))

    still_needed : (w : ℕ) → HasLeft policy scripts p stashes w → (n : ℕ) →
        ((w : ℕ) → AllByRecursion (λ call. commit_phase policy (hot ++ hot_now ∷ []) call < n) (numbered 0 (script_of scripts w))) → suc p ≤ n
    still_needed w (inl more) n all =
        let call = at_index (λ call. commit_phase policy (hot ++ hot_now ∷ []) call < n) 0 (first_index policy p) (script_of scripts w) (all w) (omega arith) (omega arith) in
        let high : p ≤ phase_reached policy (first_index policy p) = reach_from policy.joined_quota policy.split_quota some p (first_index policy p) (omega arith) in
        let low : phase_reached policy (first_index policy p) ≤ commit_phase policy (hot ++ hot_now ∷ []) (first_index policy p, call.0) = from policy (hot ++ hot_now ∷ []) (first_index policy p, call.0) in
        let less : commit_phase policy (hot ++ hot_now ∷ []) (first_index policy p, call.0) < n = call.1 in
        omega arith
    still_needed w (inr waits) n all = go (cases_lt p n) where
      none : n ≤ p → stashes w ≡ []
      none le = waiting_same w ∙ filter_false (λ call. nat_lt (phase_reached policy call.0) p && (commit_phase policy (hot ++ hot_now ∷ []) call == p)) (numbered 0 (script_of scripts w))
          (all-weaker (λ call. commit_phase policy (hot ++ hot_now ∷ []) call < n) (λ call. (nat_lt (phase_reached policy call.0) p && (commit_phase policy (hot ++ hot_now ∷ []) call == p)) ≡ false)
          (λ call less. and_right (nat_lt (phase_reached policy call.0) p) (commit_phase policy (hot ++ hot_now ∷ []) call == p)
          (ne_eqb (commit_phase policy (hot ++ hot_now ∷ []) call) p (λ (e : commit_phase policy (hot ++ hot_now ∷ []) call ≡ p). omega arith)))
          (numbered 0 (script_of scripts w)) (all w))

      go : (p < n) ⊎ (n ≤ p) → suc p ≤ n
      go (inl less) = omega arith
      go (inr le) = let e : length (stashes w) ≡ 0 = ap length (none le) in absurd (omega arith)

    pub phase_runs : (w : ℕ) → HasLeft policy scripts p stashes w → HasRun policy scripts (suc p) (hot ++ hot_now ∷ []) (history ++ segment) after
    phase_runs w left = record {
      phase_count = length-append hot (hot_now ∷ []) ∙ (let e : length hot ≡ p = run.phase_count in omega arith);
      done = λ w. calls-append w history segment
          ∙ ap (λ calls. calls ++ calls_of w segment) (run.done w ∙ turns_alike (commit_phase policy hot) (commit_phase policy (hot ++ hot_now ∷ [])) p (script_of scripts w)
          (λ q less. all-any _ (same_test q less) (numbered 0 (script_of scripts w))))
          ∙ ap (λ calls. turns (commit_phase policy (hot ++ hot_now ∷ [])) p (script_of scripts w) ++ calls) (segment_turn w);
      stashed = after_is;
      phases = all-append (λ e. e.phase ≡ commit_phase policy (hot ++ hot_now ∷ []) (call_of e)) history segment
          (all-weaker (λ e. (e.phase ≡ commit_phase policy hot (call_of e)) × (e.phase < p)) (λ e. e.phase ≡ commit_phase policy (hot ++ hot_now ∷ []) (call_of e)) (λ e both. still_in_phase e both.0 both.1) history
          (all-both (λ e. e.phase ≡ commit_phase policy hot (call_of e)) (λ e. e.phase < p) history run.phases run.phases_before))
          (all-weaker (λ e. (e.phase ≡ p) × (commit_phase policy (hot ++ hot_now ∷ []) (call_of e) ≡ p)) (λ e. e.phase ≡ commit_phase policy (hot ++ hot_now ∷ []) (call_of e)) (λ e both. both.0 ∙ sym both.1) segment
          (all-both (λ e. e.phase ≡ p) (λ e. commit_phase policy (hot ++ hot_now ∷ []) (call_of e) ≡ p) segment phase.phases segment_commits));
      phases_before = all-append (λ e. e.phase < suc p) history segment
          (all-weaker (λ e. e.phase < p) (λ e. e.phase < suc p) (λ e less. omega arith) history run.phases_before)
          (all-weaker (λ e. e.phase ≡ p) (λ e. e.phase < suc p) (λ e is. omega arith) segment phase.phases);
      phases_rise = ordered-append (λ d e. d.phase ≤ e.phase) history segment run.phases_rise
          (ordered_all (λ e. e.phase ≡ p) (λ d e. d.phase ≤ e.phase) (λ d e is is'. omega arith) segment phase.phases)
          (all-weaker (λ d. d.phase < p) (λ d. AllByRecursion (λ e. d.phase ≤ e.phase) segment)
          (λ d less. all-weaker (λ e. e.phase ≡ p) (λ e. d.phase ≤ e.phase) (λ e is. omega arith) segment phase.phases) history run.phases_before);
      needed = still_needed w left;
    }
