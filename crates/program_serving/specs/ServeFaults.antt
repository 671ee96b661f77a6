-- Why serving ends with a fault, and how far was told by then.
use Rattle.std.specs.Prelude.{ℕ, ◌≡◌, ◌<◌, ◌≤◌, ◌+◌, ◌++◌, ◌∷◌, ◌⊎◌, List, [], false, true, length, slice_index_or}
use Rattle.auction_rows.specs.Book.{Book}
use Rattle.auction_rows.specs.declared.{values.Opening.Opening, requests.Request.Request, requests.Opened.Opened}
use Rattle.auction_run.specs.Beginning.{AreShortFor, HasQuotas}
use Rattle.auction_run.specs.RunFault.{RunFault}
use Rattle.auction_run.specs.RunFault.TheVariants as run
use Rattle.auction_text.specs.{LineFault.{LineFault}, LiveReading.{records_said}}
use Rattle.auction_text.specs.{Moved.{Gone, IsPastCount}, ReadFault.{ReadFault}}
use Rattle.auction_text.specs.{Reading.{IsInputFault}, Record.{Record}, Said.{Said}}
use Rattle.auction_text.specs.Scripts.{Asked, asked_in, requests_in}
use Rattle.auction_text.specs.Said.TheVariants as says
use Rattle.byte_texts.specs.declared.writing.WriteFault.TheVariants as write
use Rattle.log_opening.specs.Parts.{IsFirstRefused, rows_from}
use Rattle.part_log.specs.declared.log.Teller.{Teller}
use Rattle.phase_floor.specs.declared.adding.AddFault.{AddFault}
use Rattle.shard_boxes.specs.declared.limits.TheConstants.{MOST_COMMITS}
use Rattle.program_opening.specs.{Options.{opening_asked, policy_of}, declared.faults.Fault.{Fault}}
use Rattle.program_opening.specs.declared.faults.Fault.TheVariants.{Read, Row, Run, Limit, Write, Log}
use Rattle.program_opening.specs.declared.options.Options.{Options}
use Rattle.program_serving.specs.PartRuns.{RunsPart, rows_before}
use Rattle.program_serving.specs.Serving.{IsTurnedAway, ServesFirst, Telling, book_left, ends_at_fault, gone_after, line_answer}

-- how far rows and a text are told at a fault: not at all, or if the writer fails, the rows are
-- logged and a prefix of the text is written; no other fault comes while they are told
abbrev pub AreToldAt : Telling → Fault → List ℕ → List ℕ → Type 0
AreToldAt told (Log fault) rows text = told.nothing
AreToldAt told (Write write.Memory) rows text = told.nothing
AreToldAt told (Write write.Write) rows text = told.part rows text
AreToldAt told _ rows text = ⊥

-- ---- why a part is not served

-- Of requests behind a book, so many of which were read before them, the one with this number is
-- the first that is not taken by an auction of so many workers with this limit, for this fault.
pub record IsFirstBadRow (workers limit : ℕ) (opening : Opening) (book : Book)
    (asked : List Opened) (before number : ℕ) (fault : AddFault) : Type 0 where
  pub place : ℕ
  pub first : IsFirstRefused limit fault workers opening book asked place
  pub number_is : number ≡ before + place + 1

-- why scripts are not run from a book: of Memory no clause says when, and commit numbers suffice
abbrev pub IsNotRunOn : Options → RunFault → Book → List (List Request) → Type 0
IsNotRunOn options run.Workers book scripts = ⊥
IsNotRunOn options run.Shards book scripts = ⊥
IsNotRunOn options run.Quota book scripts = ¬ HasQuotas (policy_of options)
IsNotRunOn options run.TooLong book scripts = ⊥
IsNotRunOn options run.Spawn book scripts = 1 < length scripts
IsNotRunOn options run.Memory book scripts = Unit {0}
IsNotRunOn options run.NumberFull book scripts = ⊥

-- why scripts are not run from a book: the limit is told if one is past it
abbrev pub AreNotRunOn : Options → Fault → Book → List (List Request) → Type 0
AreNotRunOn options (Run fault) book scripts = IsNotRunOn options fault book scripts
AreNotRunOn options (Limit most) book scripts = (most ≡ MOST_COMMITS)
    × (HasQuotas (policy_of options) × ¬ AreShortFor MOST_COMMITS book scripts)
AreNotRunOn options _ book scripts = ⊥

-- What is asked for is done from a book, and the count of phases is past 64 bits with it.
pub record HasPastPhases (options : Options) (book : Book) (gone : Gone) (asked : Asked)
    : Type 0 where
  pub runs : RunsPart options book gone asked (λ rows text. Unit {0})
  pub past : IsPastCount (gone.phases + length runs.hot)

-- behind what went before, a count is past 64 bits with what is asked for: that of the rows of the
-- input, of a worker's requests, or of the phases
abbrev pub IsPastCounts : Options → Book → Gone → ℕ → Asked → Type 0
IsPastCounts options book gone before asked =
    IsPastCount (before + length asked.rows)
    ⊎ (((worker : ℕ) × IsPastCount (gone.requests worker
    + length (slice_index_or asked.scripts worker [])))
    ⊎ HasPastPhases options book gone asked)

-- why what is asked for is not done from a book: a row is not added, for the first that is not, or
-- the scripts are not run behind the rows, or a count is past 64 bits, which is told as NumberFull;
-- a limit ends only an input that a fault ends; so many rows were read before
abbrev pub IsPartRefused : Options → Book → Gone → ℕ → Asked → Fault → Type 0
IsPartRefused options book gone before asked (Row number fault) =
    IsFirstBadRow options.workers MOST_COMMITS (opening_asked options) book asked.rows before number
    fault
IsPartRefused options book gone before asked (Run fault) =
    IsNotRunOn options fault (rows_from (opening_asked options) book asked.rows) asked.scripts
    ⊎ ((fault ≡ run.NumberFull) × IsPastCounts options book gone before asked)
IsPartRefused options book gone before asked (Limit most) = (ends_at_fault options ≡ true)
    × AreNotRunOn options (Limit most) (rows_from (opening_asked options) book asked.rows)
    asked.scripts
IsPartRefused options book gone before asked _ = ⊥

-- why a part is not served from a book: it is not done, or it is and is not told
abbrev pub IsPartFault : Telling → Options → Book → Gone → ℕ → Asked → Fault → Type 0
IsPartFault told options book gone before asked fault =
    (told.nothing × IsPartRefused options book gone before asked fault)
    ⊎ RunsPart options book gone asked (AreToldAt told fault)

-- ---- why serving ends

-- Of what lines have yet to say, the next part is not served.
pub record StopsAtPart (told : Telling) (options : Options) (book : Book) (gone : Gone) (before : ℕ)
    (rest : List Said) (fault : Fault) : Type 0 where
  pub next : List Record
  pub behind : List Said
  pub rest_is : rest ≡ records_said next ++ behind
  pub few : 1 ≤ options.live → requests_in next ≤ options.live
  pub stops : IsPartFault told options book gone before (asked_in options.workers next) fault

-- The next line is turned away, which does not end the input, and this holds of its answer.
pub record StopsAtAnswer (options : Options) (book : Book) (gone : Gone) (rest : List Said)
    (Holds : List ℕ → List ℕ → Type 0) : Type 0 where
  pub line : Said
  pub behind : List Said
  pub rest_is : rest ≡ line ∷ behind
  pub goes_on : ends_at_fault options ≡ false
  pub turned_away : IsTurnedAway book line
  pub holds : Holds [] (line_answer options gone line)

-- The next line has this fault, which ends the input.
pub record EndsAtFault (options : Options) (rest : List Said) (fault : ReadFault) : Type 0 where
  pub met : LineFault
  pub behind : List Said
  pub rest_is : rest ≡ says.Fault met ∷ behind
  pub fault_is : fault ≡ met.fault
  pub ends : ends_at_fault options ≡ true

-- why serving goes no further than to a book: the next line ends the input or is not answered, the
-- next part is not served, or the input cannot be read on
abbrev pub IsStop : Telling → Options → Book → Gone → ℕ → List Said → Fault → Type 0
IsStop told options book gone before rest (Read fault) =
    told.nothing × (IsInputFault fault → EndsAtFault options rest fault)
IsStop told options book gone before rest fault =
    StopsAtAnswer options book gone rest (AreToldAt told fault)
    ⊎ StopsAtPart told options book gone before rest fault

-- Why serving ends, if this is told between two states: the first of what lines say is served from
-- a book and told whole, and then it goes no further.
pub record IsServeFault {L W : Type 0} (telling : Teller L W → Teller L W → Telling)
    (old new : Teller L W) (options : Options) (book : Book) (all : List Said) (fault : Fault)
    : Type 0 where
  pub between : Teller L W
  pub told : ServesFirst options book all (telling old between).whole
  pub stops : IsStop (telling between new) options (book_left options book told.steps)
      (gone_after options told.steps) (rows_before told.steps) told.rest fault
