-- What is done of a part, and why it is not.
use Rattle.std.specs.Prelude.{ℕ, ◌≡◌, ◌<◌, ◌≤◌, ◌+◌, ◌++◌, List, [], Option, None, Some, false, length, map, slice_index_or}
use Rattle.auction_rows.specs.{Book.{Book}, History.{book_after}}
use Rattle.auction_rows.specs.declared.limits.TheConstants.{MOST_OF_A_WORKER}
use Rattle.auction_rows.specs.declared.requests.{Request.Request, Opened.Opened}
use Rattle.auction_run.specs.{GoingOn.{AreShortOn, IsShortOn}, Outcome.{Outcome}, Phases.{hot_sets}}
use Rattle.auction_run.specs.declared.checks.Stopped.{TheVariants.{Failed, Refused}, Stopped}
use Rattle.auction_run.specs.RunFault.TheVariants as run
use Rattle.auction_text.specs.{InputLimits.{MOST_ROWS_OF_A_PART}, Moved.{Gone, gone_by}}
use Rattle.auction_text.specs.Scripts.{Asked}
use Rattle.closing_laws.specs.Standing.{counters_at, stores}
use Rattle.item_shards.specs.OpeningRows.{rows_by}
use Rattle.log_opening.specs.Parts.{rows_from}
use Rattle.phase_floor.specs.States.{JoinedState}
use Rattle.run_laws.specs.{Answers.{IsAnswer}, Serving.{script_of}}
use Rattle.shard_boxes.specs.declared.limits.TheConstants.{MOST_COMMITS}
use Rattle.program_opening.specs.{Options.{opening_asked, policy_of}, declared.faults.Fault.{Fault}}
use Rattle.program_opening.specs.declared.faults.Fault.TheVariants.{Row, Run, Limit}
use Rattle.program_opening.specs.declared.options.Options.{Options}
use Rattle.program_serving.specs.PartRuns.{IsStart, RunsPart}
use Rattle.program_serving.specs.ServeFaults.{IsFirstBadRow, IsPartFault, IsPartRefused}
use Rattle.program_serving.specs.Serving.{AddsRows, Telling, ends_at_fault}
use Rattle.program_serving.specs.declared.parts.{NextPart.{NextPart}, Served.{Served}}

-- Scripts of the options' workers begin with the options' auction, at this book.
pub record BeginsAt (options : Options) (auction : JoinedState) (scripts : List (List Request))
    (book : Book) : Type 0 where
  pub start : IsStart options auction book
  pub workers : length scripts ≡ options.workers

-- a part begins with the options' auction, at this book
abbrev pub BeginsPart : Options → NextPart → Book → Type 0
BeginsPart options part book =
    BeginsAt options part.served.auction part.input.scripts.items book

-- the outcome of a run answers these scripts, from a book
abbrev pub AnswersScripts : Options → Book → List (List Request) → Outcome → Type 0
AnswersScripts options book scripts outcome =
    IsAnswer (opening_asked options) book (policy_of options) scripts
    (hot_sets outcome.hot.items) outcome.history.entries

-- The outcome of a run answers these scripts, from a book, and leaves the options' auction with the
-- rows of its history.
pub record RunsScripts (options : Options) (book : Book) (scripts : List (List Request))
    (outcome : Outcome) : Type 0 where
  pub answers : AnswersScripts options book scripts outcome
  pub start : IsStart options outcome.state
      (book_after (opening_asked options) book outcome.history.entries)

-- each worker of an auction has room for all rows and requests that a part may have
abbrev pub HasRoomForPart : JoinedState → Type 0
HasRoomForPart auction = (worker : ℕ) → worker < length auction.counters →
    stores (counters_at auction.counters worker) + (MOST_ROWS_OF_A_PART + MOST_OF_A_WORKER)
    ≤ auction.limit

-- no worker of an auction has more rows than its limit
abbrev pub AreWithinLimit : JoinedState → Type 0
AreWithinLimit auction = (worker : ℕ) → worker < length auction.counters →
    stores (counters_at auction.counters worker) ≤ auction.limit

-- a worker's script has requests, and too many for an auction
pub record IsPastOn (auction : JoinedState) (scripts : List (List Request)) (worker : ℕ)
    : Type 0 where
  pub some : 1 ≤ length (script_of scripts worker)
  pub past : ¬ IsShortOn auction worker (script_of scripts worker)
  pub own : worker < length auction.counters

-- a worker's script has requests, and too many behind a book
pub record IsPastLimit (book : Book) (scripts : List (List Request)) (worker : ℕ) : Type 0 where
  pub some : 1 ≤ length (script_of scripts worker)
  pub past : ¬ ((length (script_of scripts worker) ≤ MOST_OF_A_WORKER)
      × (rows_by book worker + length (script_of scripts worker) ≤ MOST_COMMITS))

-- what is done of what is asked for: all; or if a worker's script is past its limit, no request
abbrev pub done_of : Option ℕ → Asked → Asked
done_of None asked = asked
done_of (Some worker) asked = record asked { scripts = map (λ script. []) asked.scripts }

-- if a worker is given, its script is past its limit behind the rows that are asked for, and this
-- does not end the input
abbrev pub AreDoneOf : Options → Book → Asked → Option ℕ → Type 0
AreDoneOf options book asked None = Unit {0}
AreDoneOf options book asked (Some worker) = (ends_at_fault options ≡ false)
    × IsPastLimit (rows_from (opening_asked options) book asked.rows) asked.scripts worker

-- What is asked for begins from a book: these rows are added to it, and behind them these scripts
-- begin, which are what is done of it.
pub record IsBegun (options : Options) (book : Book) (asked : Asked) (auction : JoinedState)
    (added : Book) (scripts : List (List Request)) (past : Option ℕ) : Type 0 where
  pub adds : AddsRows (opening_asked options) book asked.rows added
  pub begins : BeginsAt options auction scripts (book ++ added)
  pub done : record { rows = asked.rows; scripts = scripts } ≡ done_of past asked
  pub are : AreDoneOf options book asked past
  -- unless a fault ends the input, each script has room
  pub short : ends_at_fault options ≡ false → AreShortOn auction scripts

-- what went before what follows a part: so many phases, and the requests of scripts
abbrev pub gone_with : Gone → ℕ → List (List Request) → Gone
gone_with gone phases scripts = record {
  phases = gone.phases + phases;
  requests = λ worker. gone.requests worker + length (slice_index_or scripts worker []);
}

-- What is asked for is done from a book, this holds of the rows that this adds and of the text, and
-- the next part begins with what is served.
pub record ServesPart (options : Options) (book : Book) (gone : Gone) (asked : Asked)
    (served : Served) (Holds : List ℕ → List ℕ → Type 0) : Type 0 where
  pub runs : RunsPart options book gone asked Holds
  pub start : IsStart options served.auction
      (book_after (opening_asked options) (book ++ runs.added) runs.history)
  pub before : gone_by served.before ≡ gone_with gone (length runs.hot) asked.scripts

-- Of what is asked for from a book, what is done is served.
pub record ServesDone (options : Options) (book : Book) (gone : Gone) (asked : Asked)
    (past : Option ℕ) (served : Served) (Holds : List ℕ → List ℕ → Type 0) : Type 0 where
  pub are : AreDoneOf options book asked past
  pub serves : ServesPart options book gone (done_of past asked) served Holds

-- ---- why it is not done

-- why requests are not added to an auction of a book, so many of which were read before them
abbrev pub IsFirstNotAdded : JoinedState → Book → List Opened → ℕ → Fault → Type 0
IsFirstNotAdded auction book asked before (Row number fault) =
    IsFirstBadRow (length auction.counters) auction.limit auction.opening book asked before number
    fault
IsFirstNotAdded auction book asked before _ = ⊥

-- the fault that is told of a run that stopped: past its limit, a state tells it
abbrev pub told_fault : Stopped → Fault
told_fault (Refused back run.TooLong) = Limit back.limit
told_fault (Refused back fault) = Run fault
told_fault (Failed fault) = Run fault

-- of what is asked for from a book, what is done is refused
abbrev pub IsNotBegun : Options → Book → Gone → ℕ → Asked → Fault → Type 0
IsNotBegun options book gone before asked fault = (past : Option ℕ)
    × (AreDoneOf options book asked past
    × IsPartRefused options book gone before (done_of past asked) fault)

-- Of what is asked for from a book, what is done is not served, for this fault.
pub record FailsPart (told : Telling) (options : Options) (book : Book) (gone : Gone) (before : ℕ)
    (asked : Asked) (fault : Fault) : Type 0 where
  pub past : Option ℕ
  pub are : AreDoneOf options book asked past
  pub fails : IsPartFault told options book gone before (done_of past asked) fault
