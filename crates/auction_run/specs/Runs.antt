-- What a run from an opening book on answers, and what its board has then.
use Rattle.std.specs.Prelude.{◌≡◌, ◌<◌, List, [], Result, length, IfOk, IsErrOf}
use Rattle.auction_rows.specs.{Book.{Book}, History.{book_after}}
use Rattle.auction_rows.specs.declared.limits.TheConstants.{MOST_OF_A_WORKER}
use Rattle.auction_rows.specs.declared.{limits.Policy.Policy, values.Opening.Opening, requests.Request.Request, rows.Row.Row}
use Rattle.phase_floor.specs.States.{IsBookOf}
use Rattle.auction_run.specs.Checks.{IsRefusedInOrder}
use Rattle.run_phases.specs.{Boards.{HasShown}, Outcomes.{IsOutcome, HasShownFirstAfter}}
use Rattle.run_phases.specs.declared.course.Outcome.{Outcome}
use Rattle.run_phases.specs.declared.faults.RunFault.{TheVariants.{NumberFull, Spawn}, RunFault}

-- What a run of these scripts answers, from an opening book on.
pub record AnswersRun (opening : Opening) (rows : Book) (policy : Policy)
    (scripts : List (List Request)) (result : Result Outcome RunFault) : Type 0 where
  -- an outcome is that of such a run
  pub outcome : IfOk result (IsOutcome opening rows policy scripts)
  -- the book after its history is one of the state left
  pub left : IfOk result (λ outcome.
      IsBookOf outcome.state (book_after opening rows outcome.history.entries))
  -- in which each worker may commit 1,000,000 requests
  pub limit : IfOk result (λ outcome. outcome.state.limit ≡ MOST_OF_A_WORKER)
  -- it is refused for the first of four reasons, exactly where one of them is there
  pub refused : IsRefusedInOrder result policy rows scripts
  -- Spawn comes only if there is a thread to start
  pub spawn : IsErrOf result Spawn → 1 < length scripts
  -- and NumberFull never comes: commit numbers suffice
  pub numbers : ¬ IsErrOf result NumberFull

-- A board has all phases of a run, of an auction that was opened with these rows.
abbrev pub HasShownAll : {B : Type 0} → (B → Opening → Book → List (List Row) → Type 0) →
    Opening → Book → B → Outcome → Type 0
HasShownAll has opening rows board outcome =
    HasShown has opening rows (length outcome.hot.items) outcome.history.entries board

-- A board has the first phases of a run of these scripts, from an opening book on, which ends with
-- this fault.
abbrev pub HasShownFirst : {B : Type 0} → (B → Opening → Book → List (List Row) → Type 0) →
    (B → Opening → Book → List (List Row) → Type 0) →
    Opening → Book → Policy → List (List Request) → B → RunFault → Type 0
HasShownFirst has has_refused opening rows policy scripts board fault =
    HasShownFirstAfter has has_refused opening rows [] policy scripts board fault
