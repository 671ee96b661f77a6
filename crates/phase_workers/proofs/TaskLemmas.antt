-- The tasks of workers, one after the other.
use Rattle.std.proofs.Common.{inl, inr, ◌≡◌, ℕ, suc, ◌+◌, ◌<◌, ◌≤◌, Bool, List, [], ◌∷◌, ◌++◌, map, length, drop, get_or, refl, sym, ap, subst, ◌∙◌, append_assoc, arith, drop-cons}
use Rattle.std.proofs.lemmas.{List.{map-append, length-map}, Slice.Zip.{AllZip-long}}
use Rattle.std.specs.List.{AllByRecursion, AllZip}
use Rattle.std.specs.{Prelude.{OnOk, IfErr, Result, Ok, Err}, Result.{result_and}}
use Rattle.auction_rows.specs.declared.requests.Request.{Request}
use Rattle.phase_transactions.specs.Workers.{WorkerState}
use Rattle.phase_transactions.specs.declared.fault.PermitFault.{PermitFault}
use Rattle.phase_laws.proofs.ListLemmas.{all-append}
use Rattle.shard_boxes.specs.States.{ShardState}
use Rattle.job_threads.specs.{Threads.{IsUnstarted}, declared.fault.JobFault.{JobFault}}
use Rattle.job_threads.specs.declared.fault.JobFault.TheVariants.{Spawn, Memory}
use Rattle.phase_workers.specs.Tasks.{Task, task, tasks, HasDoneTask, HasMetFault, IsFirstFault, IsReceiptFor}
use Rattle.phase_workers.specs.declared.round.WorkerAnswer.{WorkerAnswer}
use Rattle.phase_workers.specs.inner.Answers.{done_by_all, receipt_in}

-- the next of the scripts that are left
pub next_script : (scripts : List (List Request)) (n m : ℕ) (script : List Request) → n < length scripts → script ≡ get_or scripts n script → m ≡ n + 1 →
    drop n scripts ≡ script ∷ drop m scripts
next_script scripts n m script less is one =
    let e : suc n ≡ m = omega (arith, one) in
    drop-cons scripts n script less ∙ ap (λ own. own ∷ drop (suc n) scripts) (sym is) ∙ ap (λ k. script ∷ drop k scripts) e

pub next_within : (n left rest all : ℕ) → left + 1 ≡ rest → n + rest ≡ all → n < all
next_within n left rest all one so_far = omega (arith, one, so_far)

pub one_made : (n m left rest all : ℕ) → m ≡ n + 1 → left + 1 ≡ rest → n + rest ≡ all → m + left ≡ all
one_made n m left rest all longer one so_far = omega (arith, longer, one, so_far)

pub next_task : (first : ℕ) (left next : List WorkerState) (permit : WorkerState) (rest after : List (List Request)) (script : List Request) →
    left ≡ permit ∷ next → rest ≡ script ∷ after → tasks left rest first ≡ task permit script first ∷ tasks next after first
next_task first left next permit rest after script is are = ap (λ ps. tasks ps rest first) is ∙ ap (λ ss. tasks (permit ∷ next) ss first) are

-- one worker's task more is made
pub own_more : {D : Type 0} (Can : Task → Type 0) (CanDo : D → Type 0) (of : D → Task) (owns now : List D) (own : D) (rest next all : List Task) (t : Task) →
    now ≡ owns ++ own ∷ [] → of own ≡ t → rest ≡ t ∷ next → (Can t → CanDo own) →
    AllByRecursion Can rest → AllByRecursion CanDo owns → map of owns ++ rest ≡ all →
    AllByRecursion Can next × AllByRecursion CanDo now × (map of now ++ next ≡ all)
own_more Can CanDo of owns now own rest next all t push is more can left made whole =
    let split : AllByRecursion Can (t ∷ next) = subst (AllByRecursion Can) more left in (
      split.1,
      subst (AllByRecursion CanDo) (sym push) (all-append CanDo owns (own ∷ []) made (can split.0, tt)),
      ap (λ ds. map of ds ++ next) push
          ∙ ap (λ ts. ts ++ next) (map-append of owns (own ∷ []))
          ∙ append_assoc (map of owns) (of own ∷ []) next
          ∙ ap (λ u. map of owns ++ u ∷ next) is
          ∙ ap (λ ts. map of owns ++ ts) (sym more)
          ∙ whole,
    )

-- what each worker's answer keeps of its task
module _ {D : Type 0} (of : D → Task) (takes : Bool) (initial : List ShardState) where
  abbrev Keeps : D → WorkerAnswer WorkerState → Type 0
  Keeps own answer = OnOk answer.done (HasDoneTask takes (of own) answer.receipt) × IfErr answer.done (HasMetFault takes initial (of own) answer.receipt)

  pub as_many : (owns : List D) (answers : List (WorkerAnswer WorkerState)) → AllZip Keeps owns answers → length answers ≡ length owns
  as_many owns answers kept = AllZip-long Keeps owns answers kept

  -- all receipts are of their tasks' permits
  receipts_for : (owns : List D) (answers : List (WorkerAnswer WorkerState)) → AllZip Keeps owns answers → AllZip IsReceiptFor (map of owns) (map receipt_in answers)
  receipts_for [] [] kept = tt
  receipts_for (d ∷ ds) (a ∷ more) kept = (at a.done kept.0.0 kept.0.1, receipts_for ds more kept.1) where
    at : {U : Type 0} (done : Result U PermitFault) → OnOk done (HasDoneTask takes (of d) a.receipt) → IfErr done (HasMetFault takes initial (of d) a.receipt) → IsReceiptFor (of d) a.receipt
    at (Ok u) ok err = ok.same
    at (Err f) ok err = err.same
  receipts_for owns answers kept = absurd kept

  -- where no worker met a fault, all tasks are done
  done_by : (owns : List D) (answers : List (WorkerAnswer WorkerState)) → AllZip Keeps owns answers → OnOk (done_by_all answers) (AllZip (HasDoneTask takes) (map of owns) (map receipt_in answers))
  done_by [] [] kept = tt
  done_by (d ∷ ds) (a ∷ more) kept = at a.done (done_by_all more) kept.0.0 (done_by ds more kept.1) where
    at : (done later : Result Unit PermitFault) → OnOk done (HasDoneTask takes (of d) a.receipt) → OnOk later (AllZip (HasDoneTask takes) (map of ds) (map receipt_in more))
        → OnOk (result_and done later) (HasDoneTask takes (of d) a.receipt × AllZip (HasDoneTask takes) (map of ds) (map receipt_in more))
    at (Ok u) (Ok v) one all = (one, all)
    at (Ok u) (Err f) one all = tt
    at (Err f) later one all = tt
  done_by owns answers kept = absurd kept

  -- the fault of the least worker that met one is that of the first task that was not done
  stopped_by : (owns : List D) (answers : List (WorkerAnswer WorkerState)) → AllZip Keeps owns answers → IfErr (done_by_all answers) (IsFirstFault takes initial (map of owns) (map receipt_in answers))
  stopped_by [] [] kept = tt
  stopped_by (d ∷ ds) (a ∷ more) kept = at a.done (done_by_all more) kept.0.0 kept.0.1 (stopped_by ds more kept.1) where
    at : (done later : Result Unit PermitFault) → OnOk done (HasDoneTask takes (of d) a.receipt) → IfErr done (HasMetFault takes initial (of d) a.receipt)
        → IfErr later (IsFirstFault takes initial (map of ds) (map receipt_in more)) → IfErr (result_and done later) (IsFirstFault takes initial (of d ∷ map of ds) (a.receipt ∷ map receipt_in more))
    at (Ok u) (Ok v) ok err again = tt
    at (Ok u) (Err f) ok err again = inr (ok, again)
    at (Err f) later ok err again = inl err
  stopped_by owns answers kept = absurd kept

  module _ (owns : List D) (answers : List (WorkerAnswer WorkerState)) (receipts : List WorkerState) (done : Result Unit PermitFault) (ts : List Task) (kept : AllZip Keeps owns answers)
      (receipts_are : receipts ≡ map receipt_in answers) (done_is : done ≡ done_by_all answers) (are : map of owns ≡ ts) where
    pub all_received : AllZip IsReceiptFor ts receipts
    all_received = subst (λ us. AllZip IsReceiptFor us receipts) are (subst (AllZip IsReceiptFor (map of owns)) (sym receipts_are) (receipts_for owns answers kept))

    pub all_done : OnOk done (AllZip (HasDoneTask takes) ts receipts)
    all_done =
        subst (λ d. OnOk d (AllZip (HasDoneTask takes) ts receipts)) (sym done_is) (subst (λ us. OnOk (done_by_all answers) (AllZip (HasDoneTask takes) us receipts)) are
        (subst (λ rs. OnOk (done_by_all answers) (AllZip (HasDoneTask takes) (map of owns) rs)) (sym receipts_are) (done_by owns answers kept)))

    pub first_stopped : IfErr done (IsFirstFault takes initial ts receipts)
    first_stopped =
        subst (λ d. IfErr d (IsFirstFault takes initial ts receipts)) (sym done_is) (subst (λ us. IfErr (done_by_all answers) (IsFirstFault takes initial us receipts)) are
        (subst (λ rs. IfErr (done_by_all answers) (IsFirstFault takes initial (map of owns) rs)) (sym receipts_are) (stopped_by owns answers kept)))

pub unstarted_by : (jobs workers : ℕ) (fault : JobFault) → jobs ≤ workers → IsUnstarted jobs fault → IsUnstarted workers fault
unstarted_by jobs workers Spawn few is = omega (arith, few, is)
unstarted_by jobs workers Memory few is = tt

tasks_few : (permits : List WorkerState) (scripts : List (List Request)) (first : ℕ) → length (tasks permits scripts first) ≤ length scripts
tasks_few (p ∷ ps) (s ∷ ss) first = let again = tasks_few ps ss first in omega (arith, again)
tasks_few permits scripts first = omega arith

-- there are no more tasks than scripts
pub tasks_of_few : {D : Type 0} (of : D → Task) (owns : List D) (permits : List WorkerState) (scripts : List (List Request)) (first : ℕ) →
    map of owns ≡ tasks permits scripts first → length owns ≤ length scripts
tasks_of_few of owns permits scripts first are =
    let mapped : length (map of owns) ≡ length owns = simp length-map in
    let few = tasks_few permits scripts first in
    let same : length (map of owns) ≡ length (tasks permits scripts first) = ap length are in
    omega (arith, mapped, few, same)

-- ---- receipts

-- one worker's receipt more
pub receipt_more : {T : Type 0} (receipts now : List T) (answer : WorkerAnswer T) (left next all : List (WorkerAnswer T)) → left ≡ answer ∷ next → now ≡ receipts ++ answer.receipt ∷ [] →
    receipts ++ map receipt_in left ≡ map receipt_in all → now ++ map receipt_in next ≡ map receipt_in all
receipt_more receipts now answer left next all first push whole =
    ap (λ rs. rs ++ map receipt_in next) push ∙ append_assoc receipts (answer.receipt ∷ []) (map receipt_in next)
    ∙ ap (λ answers. receipts ++ map receipt_in answers) (sym first) ∙ whole

-- one worker's fault more, if it met one
pub fault_more : {T : Type 0} (done now : Result Unit PermitFault) (answer : WorkerAnswer T) (left next all : List (WorkerAnswer T)) → left ≡ answer ∷ next → now ≡ result_and done answer.done →
    result_and done (done_by_all left) ≡ done_by_all all → result_and now (done_by_all next) ≡ done_by_all all
fault_more done now answer left next all first is whole =
    ap (λ d. result_and d (done_by_all next)) is ∙ at done answer.done ∙ ap (λ answers. result_and done (done_by_all answers)) (sym first) ∙ whole where
      at : (one two : Result Unit PermitFault) → result_and (result_and one two) (done_by_all next) ≡ result_and one (result_and two (done_by_all next))
      at (Ok u) two = refl
      at (Err f) two = refl
