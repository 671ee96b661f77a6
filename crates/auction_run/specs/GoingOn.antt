-- What is checked before a run goes on from a state, what it answers, and why it stops.
use Rattle.std.specs.Prelude.{ℕ, ◌+◌, ◌<◌, ◌≤◌, ◌≡◌, List, Result, Err, length, IfOk, IfErr, OnOk}
use Rattle.auction_rows.specs.{Book.{Book}, History.{book_after}}
use Rattle.auction_rows.specs.declared.limits.TheConstants.{MOST_OF_A_WORKER}
use Rattle.auction_rows.specs.declared.{limits.Policy.Policy, values.Opening.Opening, requests.Request.Request, rows.Row.Row}
use Rattle.phase_boards.specs.Boards.{book_of}
use Rattle.closing_laws.specs.Standing.{counters_at, stores}
use Rattle.phase_floor.specs.States.{JoinedState, IsBookOf}
use Rattle.run_laws.specs.Serving.{script_of}
use Rattle.run_phases.specs.{Beginning.{HasQuotas}, Boards.{HasShownAfter}}
use Rattle.run_phases.specs.{Outcomes.{HasShownFirstAfter, IsOutcome}, Phases.{IsMet}}
use Rattle.run_phases.specs.declared.{course.Outcome.{Outcome}, faults.RunFault.{RunFault}}
use Rattle.auction_run.specs.{Checks.{IsFirstToFail}, declared.checks.Stopped.{Stopped}}
use Rattle.auction_run.specs.declared.checks.Stopped.TheVariants.{Refused, Failed}

-- there is a script for each worker of the state
abbrev pub HasScripts : JoinedState → List (List Request) → Type 0
HasScripts state scripts = length scripts ≡ length state.counters

-- the policy has the shards of the state
abbrev pub HasItsShards : JoinedState → Policy → Type 0
HasItsShards state policy = policy.shards ≡ length state.shards

-- a worker's script has no more than 1,000,000 requests, and with its rows no more than the state's
-- limit
abbrev pub IsShortOn : JoinedState → ℕ → List Request → Type 0
IsShortOn state worker script = (length script ≤ MOST_OF_A_WORKER)
    × (stores (counters_at state.counters worker) + length script ≤ state.limit)

-- so is each worker's
abbrev pub AreShortOn : JoinedState → List (List Request) → Type 0
AreShortOn state scripts = (worker : ℕ) → worker < length scripts →
    IsShortOn state worker (script_of scripts worker)

-- a run of these scripts can go on from the state
abbrev pub IsReadyFor : JoinedState → Policy → List (List Request) → Type 0
IsReadyFor state policy scripts = HasScripts state scripts
    × (HasItsShards state policy × (HasQuotas policy × AreShortOn state scripts))

-- the fault is that of the first of the four that doesn't hold, or there is none and all hold
abbrev pub IsCheckedOn : {T : Type 0} → Result T RunFault → JoinedState → Policy →
    List (List Request) → Type 0
IsCheckedOn result state policy scripts =
    IsFirstToFail result (HasScripts state scripts) (HasItsShards state policy) (HasQuotas policy)
    (AreShortOn state scripts)

-- why a run that goes on stops: the state is given back as it was, for the first of the four that
-- doesn't hold; or all hold, and a phase met the fault
abbrev pub IsStopped : JoinedState → Policy → List (List Request) → Stopped → Type 0
IsStopped state policy scripts (Refused back fault) =
    (back ≡ state) × IsCheckedOn {T = Unit {0}} (Err fault) state policy scripts
IsStopped state policy scripts (Failed fault) =
    IsReadyFor state policy scripts × IsMet scripts fault

-- the run did not begin, so its state is given back
abbrev pub GivesBack : Stopped → Type 0
GivesBack (Refused back fault) = Unit {0}
GivesBack (Failed fault) = ⊥

-- the fault of a run that stopped
abbrev pub fault_of : Stopped → RunFault
fault_of (Refused back fault) = fault
fault_of (Failed fault) = fault

-- What a run of these scripts answers that goes on from a state.
pub record AnswersNextRun (state : JoinedState) (policy : Policy) (scripts : List (List Request))
    (result : Result Outcome Stopped) : Type 0 where
  -- it goes on only if it can
  pub ready : OnOk result (IsReadyFor state policy scripts)
  -- an outcome is that of a run from each book of the state
  pub outcome : IfOk result (λ outcome. (book : Book) → IsBookOf state book →
      IsOutcome state.opening book policy scripts outcome)
  -- the book after its history is one of the state left
  pub left : IfOk result (λ outcome. (book : Book) → IsBookOf state book →
      IsBookOf outcome.state (book_after state.opening book outcome.history.entries))
  -- its workers may commit as much as before
  pub limit : IfOk result (λ outcome. outcome.state.limit ≡ state.limit)
  -- or it says why it stopped
  pub stopped : IfErr result (IsStopped state policy scripts)

-- a board that had the phases of a book of the state has those of the run after them
abbrev pub HasShownNext : {B : Type 0} → (B → Opening → Book → List (List Row) → Type 0) →
    JoinedState → B → B → Outcome → Type 0
HasShownNext has state old new outcome = (rows : Book) (before : List (List Row)) →
    has old state.opening rows before → IsBookOf state (book_of rows before) →
    HasShownAfter has state.opening rows before (length outcome.hot.items)
    outcome.history.entries new

-- the same of a run that stopped: the board has the first phases of such a run after them
abbrev pub HasShownFirstNext : {B : Type 0} →
    (has has_refused : B → Opening → Book → List (List Row) → Type 0) →
    JoinedState → Policy → List (List Request) → B → B → Stopped → Type 0
HasShownFirstNext has has_refused state policy scripts old new stopped =
    (rows : Book) (before : List (List Row)) →
    has old state.opening rows before → IsBookOf state (book_of rows before) →
    HasShownFirstAfter has has_refused state.opening rows before policy scripts new
    (fault_of stopped)
