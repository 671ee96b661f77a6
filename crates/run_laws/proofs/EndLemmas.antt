-- What a run gives at its end.
use Rattle.std.proofs.Common.{◌≡◌, ℕ, suc, ◌+◌, ◌*◌, ◌<◌, ◌≤◌, ◌==◌, ◌⊎◌, ◌&&◌, not, nat_lt, true, false, List, length, slice_get, Some, subst, sym, ap, ◌∙◌, inl, inr, arith, eqb-true}
use Rattle.std.proofs.lemmas.{Bool.{eqb-false, lt-ltb, cases_lt, and_left}, List.{nil_from_length}}
use Rattle.std.specs.{List.{AllByRecursion, list_any}, Option.{option_map_or}}
use Rattle.auction_rows.specs.{Footprint.{is_hot}, Phases.{is_put_off}}
use Rattle.auction_rows.specs.Requests.{touches, is_splittable}
use Rattle.auction_rows.specs.declared.{limits.Policy.Policy, values.Opening.Opening, requests.Object.Object, requests.Request.Request, rows.Entry.Entry}
use Rattle.phase_laws.proofs.ListLemmas.{all-both, all-kept, filter_empty, ordered-with, greatest_bounds, greatest_least}
use Rattle.phase_laws.proofs.OrderLemmas.{all-filter, all-weaker, all-map, ordered-weaker, ordered_from_map, all-from_map}
use Rattle.phase_laws.specs.{Numbers.{greatest_by}, Order.{IsOrderedBy, part}}
use Rattle.run_laws.proofs.CallLemmas.{numbered_until, all_from_turns, turns_ordered, once_in_turns, requests_in_turns}
use Rattle.run_laws.proofs.CommitLemmas.{from, until}
use Rattle.run_laws.proofs.CountLemmas.{how_many, how_many-is, count-filter, count-map}
use Rattle.run_laws.proofs.PartLemmas.{all_of_parts, ordered_of_parts}
use Rattle.run_laws.proofs.ReachLemmas.{reach_until, reach_rises, reach_most}
use Rattle.run_laws.{proofs.TurnLemmas.{commit_free}, specs.Run.{first_index, HasRun, IsDone}}
use Rattle.run_laws.specs.Serving.{call_of, script_of, hot_in, phase_reached, commit_phase, AreNumbered, Serves}
use Rattle.run_laws.specs.Turns.{numbered}

module _ (opening : Opening) (policy : Policy) (some : 0 < policy.joined_quota + policy.split_quota) (scripts : List (List Request)) where
  -- THE END
  module _ (p : ℕ) (hot : List (List Object)) (history : List Entry) (stashes : ℕ → List (ℕ × Request))
      (run : HasRun policy scripts p hot history stashes) (numbered_all : AreNumbered opening policy hot history) (end : IsDone policy scripts p stashes) where
    all_commit : (w : ℕ) → AllByRecursion (λ call. commit_phase policy hot call < p) (numbered 0 (script_of scripts w))
    all_commit w =
        all-weaker (λ call. (call.0 < first_index policy p) × ((nat_lt (phase_reached policy call.0) p && (commit_phase policy hot call == p)) ≡ false)) (λ call. commit_phase policy hot call < p)
        (λ call both. in_time call both.0 both.1) (numbered 0 (script_of scripts w))
        (all-both (λ call. call.0 < first_index policy p) (λ call. (nat_lt (phase_reached policy call.0) p && (commit_phase policy hot call == p)) ≡ false) (numbered 0 (script_of scripts w))
        (numbered_until 0 (first_index policy p) (script_of scripts w) (let e : length (script_of scripts w) ≤ first_index policy p = (end w).0 in omega arith))
        (filter_empty (λ call. nat_lt (phase_reached policy call.0) p && (commit_phase policy hot call == p)) (numbered 0 (script_of scripts w)) (sym (run.stashed w) ∙ nil_from_length (stashes w) (end w).1)))
      where
        in_time : (call : ℕ × Request) → call.0 < first_index policy p → (nat_lt (phase_reached policy call.0) p && (commit_phase policy hot call == p)) ≡ false → commit_phase policy hot call < p
        in_time call less none =
            let low : phase_reached policy call.0 < p = reach_until policy.joined_quota policy.split_quota some p call.0 less in
            let high : commit_phase policy hot call ≤ suc (phase_reached policy call.0) = until policy hot call in
            let other : commit_phase policy hot call ≡ p → ⊥ = eqb-false (commit_phase policy hot call) p
            (sym (ap (λ b. b && (commit_phase policy hot call == p)) (lt-ltb (phase_reached policy call.0) p low)) ∙ none) in
            omega arith

    in_order : IsOrderedBy (λ d e. d.worker ≡ e.worker → (commit_phase policy hot (call_of d) < commit_phase policy hot (call_of e)) ⊎
        ((commit_phase policy hot (call_of d) ≡ commit_phase policy hot (call_of e)) × (d.index < e.index))) history
    in_order = ordered_of_parts (λ e. e.worker)
        (λ d e. (commit_phase policy hot (call_of d) < commit_phase policy hot (call_of e)) ⊎ ((commit_phase policy hot (call_of d) ≡ commit_phase policy hot (call_of e)) × (d.index < e.index))) history
        (λ w. ordered_from_map call_of (λ c d. (commit_phase policy hot c < commit_phase policy hot d) ⊎ ((commit_phase policy hot c ≡ commit_phase policy hot d) × (c.0 < d.0))) (part (λ e. e.worker) w history)
        (subst (IsOrderedBy (λ c d. (commit_phase policy hot c < commit_phase policy hot d) ⊎ ((commit_phase policy hot c ≡ commit_phase policy hot d) × (c.0 < d.0)))) (sym (run.done w))
        (turns_ordered (commit_phase policy hot) p (script_of scripts w))))

    store_first : (d e : Entry) → (d.worker ≡ e.worker → (commit_phase policy hot (call_of d) < commit_phase policy hot (call_of e)) ⊎
        ((commit_phase policy hot (call_of d) ≡ commit_phase policy hot (call_of e)) × (d.index < e.index))) →
        d.worker ≡ e.worker → is_splittable e.request ≡ true → d.index < e.index
    store_first d e order same store = go (order same) where
      at_once : commit_phase policy hot (call_of e) ≡ phase_reached policy e.index
      at_once = commit_free (phase_reached policy) (λ q request. is_put_off (hot_in hot q) request) (call_of e)
          (and_left (not (is_splittable e.request)) (list_any (λ touched. option_map_or (is_hot (hot_in hot (phase_reached policy e.index))) touched false) (touches e.request)) (ap not store))

      go : (commit_phase policy hot (call_of d) < commit_phase policy hot (call_of e)) ⊎ ((commit_phase policy hot (call_of d) ≡ commit_phase policy hot (call_of e)) × (d.index < e.index)) → d.index < e.index
      go (inr both) = both.1
      go (inl less) = later (cases_lt d.index e.index) where
        later : (d.index < e.index) ⊎ (e.index ≤ d.index) → d.index < e.index
        later (inl before) = before
        later (inr not_before) =
            let a : phase_reached policy e.index ≤ phase_reached policy d.index = reach_rises policy.joined_quota policy.split_quota some e.index d.index not_before in
            let b : phase_reached policy d.index ≤ commit_phase policy hot (call_of d) = from policy hot (call_of d) in
            let c : commit_phase policy hot (call_of e) ≡ phase_reached policy e.index = at_once in
            absurd (omega arith)

    greatest_is : length hot ≡ greatest_by (λ e. suc e.phase) history
    greatest_is =
        let high : greatest_by (λ e. suc e.phase) history ≤ p = greatest_least (λ e. suc e.phase) p history
        (all-weaker (λ e. e.phase < p) (λ e. suc e.phase ≤ p) (λ e less. omega arith) history run.phases_before) in
        let low : p ≤ greatest_by (λ e. suc e.phase) history = run.needed (greatest_by (λ e. suc e.phase) history) below in
        let is : length hot ≡ p = run.phase_count in omega arith where
          entries_below : AllByRecursion (λ e. commit_phase policy hot (call_of e) < greatest_by (λ e. suc e.phase) history) history
          entries_below = all-weaker (λ e. (suc e.phase ≤ greatest_by (λ e. suc e.phase) history) × (e.phase ≡ commit_phase policy hot (call_of e)))
              (λ e. commit_phase policy hot (call_of e) < greatest_by (λ e. suc e.phase) history) (λ e both. at e both.0 both.1) history
              (all-both (λ e. suc e.phase ≤ greatest_by (λ e. suc e.phase) history) (λ e. e.phase ≡ commit_phase policy hot (call_of e)) history (greatest_bounds (λ e. suc e.phase) history) run.phases)
            where
              at : (e : Entry) → suc e.phase ≤ greatest_by (λ e. suc e.phase) history → e.phase ≡ commit_phase policy hot (call_of e) → commit_phase policy hot (call_of e) < greatest_by (λ e. suc e.phase) history
              at e le is = omega arith

          below : (w : ℕ) → AllByRecursion (λ call. commit_phase policy hot call < greatest_by (λ e. suc e.phase) history) (numbered 0 (script_of scripts w))
          below w = all-weaker (λ call. (commit_phase policy hot call < p → commit_phase policy hot call < greatest_by (λ e. suc e.phase) history) × (commit_phase policy hot call < p))
              (λ call. commit_phase policy hot call < greatest_by (λ e. suc e.phase) history) (λ call both. both.0 both.1) (numbered 0 (script_of scripts w))
              (all-both (λ call. commit_phase policy hot call < p → commit_phase policy hot call < greatest_by (λ e. suc e.phase) history) (λ call. commit_phase policy hot call < p) (numbered 0 (script_of scripts w))
              (all_from_turns (commit_phase policy hot) (λ call. commit_phase policy hot call < greatest_by (λ e. suc e.phase) history) p (script_of scripts w)
              (subst (AllByRecursion (λ call. commit_phase policy hot call < greatest_by (λ e. suc e.phase) history)) (run.done w)
              (all-map call_of (λ call. commit_phase policy hot call < greatest_by (λ e. suc e.phase) history) (part (λ e. e.worker) w history)
              (all-filter (λ e. commit_phase policy hot (call_of e) < greatest_by (λ e. suc e.phase) history) (λ e. e.worker == w) history entries_below))))
              (all_commit w))

    pub run_serves : Serves opening policy scripts hot history
    run_serves = record {
      once = λ w i. sym (how_many-is (λ e. (e.worker == w) && (e.index == i)) history)
          ∙ sym (count-filter (λ e. e.worker == w) (λ e. e.index == i) history)
          ∙ sym (count-map call_of (λ call. call.0 == i) (part (λ e. e.worker) w history))
          ∙ ap (how_many (λ call. call.0 == i)) (run.done w)
          ∙ once_in_turns (commit_phase policy hot) p i (script_of scripts w) (all_commit w);
      requests = all_of_parts (λ e. e.worker) (λ e. slice_get (script_of scripts e.worker) e.index ≡ Some e.request) history
          (λ w. all-weaker (λ e. ((e.worker == w) ≡ true) × (slice_get (script_of scripts w) e.index ≡ Some e.request)) (λ e. slice_get (script_of scripts e.worker) e.index ≡ Some e.request)
          (λ e both. subst (λ v. slice_get (script_of scripts v) e.index ≡ Some e.request) (sym (eqb-true e.worker w both.0)) both.1) (part (λ e. e.worker) w history)
          (all-both (λ e. (e.worker == w) ≡ true) (λ e. slice_get (script_of scripts w) e.index ≡ Some e.request) (part (λ e. e.worker) w history) (all-kept (λ e. e.worker == w) history)
          (all-from_map call_of (λ call. slice_get (script_of scripts w) call.0 ≡ Some call.1) (part (λ e. e.worker) w history)
          (subst (AllByRecursion (λ call. slice_get (script_of scripts w) call.0 ≡ Some call.1)) (sym (run.done w)) (requests_in_turns (commit_phase policy hot) p (script_of scripts w))))));
      phases = run.phases;
      phases_rise = run.phases_rise;
      indexes_rise = ordered-with (λ e. e.phase ≡ commit_phase policy hot (call_of e))
          (λ d e. d.worker ≡ e.worker → (commit_phase policy hot (call_of d) < commit_phase policy hot (call_of e)) ⊎ ((commit_phase policy hot (call_of d) ≡ commit_phase policy hot (call_of e)) × (d.index < e.index)))
          (λ d e. d.worker ≡ e.worker → d.phase ≡ e.phase → d.index < e.index)
          (λ d e is is' order same phases. in_phase d e is is' (order same) phases) history run.phases in_order;
      stores_first = ordered-weaker
          (λ d e. d.worker ≡ e.worker → (commit_phase policy hot (call_of d) < commit_phase policy hot (call_of e)) ⊎ ((commit_phase policy hot (call_of d) ≡ commit_phase policy hot (call_of e)) × (d.index < e.index)))
          (λ d e. d.worker ≡ e.worker → is_splittable e.request ≡ true → d.index < e.index) store_first history in_order;
      phase_count = greatest_is;
      numbers = numbered_all;
    } where
      in_phase : (d e : Entry) → d.phase ≡ commit_phase policy hot (call_of d) → e.phase ≡ commit_phase policy hot (call_of e) →
          (commit_phase policy hot (call_of d) < commit_phase policy hot (call_of e)) ⊎ ((commit_phase policy hot (call_of d) ≡ commit_phase policy hot (call_of e)) × (d.index < e.index)) → d.phase ≡ e.phase → d.index < e.index
      in_phase d e is is' (inl less) phases = absurd (omega arith)
      in_phase d e is is' (inr both) phases = both.1

-- A run has few phases.
pub few_phases : (policy : Policy) (some : 0 < policy.joined_quota + policy.split_quota) (scripts : List (List Request)) (p most : ℕ) (hot : List (List Object)) (history : List Entry) (stashes : ℕ → List (ℕ × Request)) →
    HasRun policy scripts p hot history stashes → ((w : ℕ) → length (script_of scripts w) ≤ most) → p ≤ 2 * most + 2
few_phases policy some scripts p most hot history stashes run short = run.needed (2 * most + 2)
    (λ w. all-weaker (λ call. call.0 < most) (λ call. commit_phase policy hot call < 2 * most + 2) (λ call less. early call less) (numbered 0 (script_of scripts w))
    (numbered_until 0 most (script_of scripts w) (let e : length (script_of scripts w) ≤ most = short w in omega arith))) where
      early : (call : ℕ × Request) → call.0 < most → commit_phase policy hot call < 2 * most + 2
      early call less =
          let a : commit_phase policy hot call ≤ suc (phase_reached policy call.0) = until policy hot call in
          let b : phase_reached policy call.0 ≤ 2 * call.0 + 1 = reach_most policy.joined_quota policy.split_quota some call.0 in omega arith
