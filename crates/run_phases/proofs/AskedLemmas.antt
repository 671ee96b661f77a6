-- The calls that workers commit, and those that wait, are of their scripts.
use Rattle.std.proofs.Common.{◌≡◌, ◌<◌, ◌∙◌, ℕ, suc, Bool, true, false, not, ◌⊎◌, inl, inr, List, [], ◌∷◌, ◌++◌, map, length, drop, sym, ap, subst, arith}
use Rattle.std.proofs.lemmas.Bool.{cases_Bool}
use Rattle.std.specs.List.{AllByRecursion, filter}
use Rattle.auction_rows.specs.Phases.{is_put_off}
use Rattle.auction_rows.specs.declared.{limits.Policy.Policy, requests.Object.Object, requests.Request.Request, rows.Entry.Entry}
use Rattle.phase_laws.proofs.ListLemmas.{all-append, all-drop, all-take}
use Rattle.phase_laws.proofs.OrderLemmas.{all-cond, all-filter, all-from_map}
use Rattle.run_laws.{proofs.CallLemmas.{all_numbered}, specs.Phases.{is_split, quota}}
use Rattle.run_laws.specs.Run.{calls_given, first_index, IsPhasePerformed}
use Rattle.run_laws.specs.{Serving.{call_of, script_of}, Turns.{call_request, numbered}}
use Rattle.worker_journals.specs.Journals.{IsOfScript, JournalView}
use Rattle.phase_transactions.specs.Workers.{WorkerState}
use Rattle.closing_laws.specs.Phases.{journal_of, receipt_at}
use Rattle.phase_workers.specs.Tasks.{HasDoneTask, task, to_do}
use Rattle.phase_workers.specs.Working.{calls_from, committed, hot_for, stashed, taken}
use Rattle.run_phases.specs.inner.Plans.{IsCallOf}

-- calls from an index on are the script's
calls_are_of : (first count : ℕ) (script : List Request) → AllByRecursion (IsCallOf script) (calls_from first count script)
calls_are_of first count script = all-take (IsCallOf script) count (drop first (numbered 0 script)) (all-drop (IsCallOf script) first (numbered 0 script) (all_numbered script))

-- so is what a phase leaves in a stash
pub left_asked : (policy : Policy) (scripts : List (List Request)) (phase : ℕ) (hot : List Object) (stashes after : ℕ → List (ℕ × Request)) (segment : List Entry) →
    IsPhasePerformed policy scripts phase hot stashes after segment → (worker : ℕ) → AllByRecursion (IsCallOf (script_of scripts worker)) (after worker)
left_asked policy scripts phase hot stashes after segment performed worker = at (cases_Bool (is_split phase)) where
  at : (is_split phase ≡ true) ⊎ (is_split phase ≡ false) → AllByRecursion (IsCallOf (script_of scripts worker)) (after worker)
  at (inl split) =
      let script = script_of scripts worker in
      subst (AllByRecursion (IsCallOf script)) (sym (performed.split_stash split worker))
      (all-filter (IsCallOf script) (λ (call : ℕ × Request). is_put_off hot (call_request call)) (calls_given policy phase script)
      (calls_are_of (first_index policy phase) (quota policy.joined_quota policy.split_quota phase (length script)) script))
  at (inr joined) = subst (AllByRecursion (IsCallOf (script_of scripts worker))) (sym (performed.joined_stash joined worker)) tt

-- what holds of each receipt's journal holds of all
pub all_journals : (P : JournalView → Type 0) (receipts : List WorkerState) → ((w : ℕ) → w < length receipts → P (journal_of (receipt_at receipts w))) → AllByRecursion P (map journal_of receipts)
all_journals P [] each = tt
all_journals P (r ∷ rs) each = (each 0 (omega arith), all_journals P rs (λ w less. each (suc w) (omega (arith, less))))

-- a worker that has done its task has committed calls of its script
pub done_asked : (takes : Bool) (permit receipt : WorkerState) (script : List Request) (first : ℕ) → HasDoneTask takes (task permit script first) receipt → committed permit ≡ [] →
    AllByRecursion (IsCallOf script) (stashed permit) → AllByRecursion (IsOfScript script) (journal_of receipt).entries
done_asked takes permit receipt script first done none waits =
    let all = all-append (IsCallOf script) (taken takes permit) (calls_from first permit.left script) (all-cond (IsCallOf script) takes (stashed permit) [] waits tt) (calls_are_of first permit.left script) in
    let goes = λ (call : ℕ × Request). not (is_put_off (hot_for permit) call.1) in
    let some = subst (AllByRecursion (IsCallOf script)) (sym (done.calls ∙ ap (λ calls. calls ++ filter goes (to_do takes (task permit script first))) none))
    (all-filter (IsCallOf script) goes (to_do takes (task permit script first)) all) in
    all-from_map call_of (IsCallOf script) (journal_of receipt).entries some
