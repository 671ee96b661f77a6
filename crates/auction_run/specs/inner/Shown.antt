-- What a run with a board answers, and what its board has then.
use Rattle.std.specs.Prelude.{List, Result, IfOk, IfErr}
use Rattle.auction_rows.specs.Book.{Book}
use Rattle.auction_rows.specs.declared.{limits.Policy.Policy, values.Opening.Opening, requests.Request.Request, rows.Row.Row}
use Rattle.phase_floor.specs.States.{JoinedState}
use Rattle.run_phases.specs.{Boards.{IsUpToDate}, declared.course.Outcome.{Outcome}}
use Rattle.run_phases.specs.declared.faults.RunFault.{RunFault}
use Rattle.auction_run.specs.GoingOn.{AnswersNextRun, HasShownFirstNext, HasShownNext}
use Rattle.auction_run.specs.Runs.{AnswersRun, HasShownAll, HasShownFirst}
use Rattle.auction_run.specs.declared.checks.Stopped.{Stopped}

-- A run of these scripts answers so, from an opening book on, and leaves this board.
pub record AnswersShown {B : Type 0}
    (has has_refused : B → Opening → Book → List (List Row) → Type 0)
    (opening : Opening) (rows : Book) (policy : Policy) (scripts : List (List Request)) (left : B)
    (result : Result Outcome RunFault) : Type 0 where
  pub answer : AnswersRun opening rows policy scripts result
  pub board : IfOk result (HasShownAll has opening rows left)
  pub up_to_date : IfOk result (λ outcome. IsUpToDate has left outcome.state)
  pub board_after_fault :
      IfErr result (HasShownFirst has has_refused opening rows policy scripts left)

-- The same of a run that goes on from a state, with a board as it was.
pub record AnswersShownNext {B : Type 0}
    (has has_refused : B → Opening → Book → List (List Row) → Type 0) (state : JoinedState)
    (policy : Policy) (scripts : List (List Request)) (old left : B)
    (result : Result Outcome Stopped) : Type 0 where
  pub answer : AnswersNextRun state policy scripts result
  pub board : IfOk result (HasShownNext has state old left)
  pub up_to_date : IfOk result (λ outcome.
      IsUpToDate has old state → IsUpToDate has left outcome.state)
  pub board_after_fault :
      IfErr result (HasShownFirstNext has has_refused state policy scripts old left)
