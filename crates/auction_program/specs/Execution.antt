-- What the program answers.
use Rattle.std.specs.Io.KnownBytes.{Appends, Keeps}
use Rattle.std.specs.Prelude.{ℕ, ◌≡◌, ◌<◌, ◌⊎◌, List, [], ◌++◌, length, Option, Ok, Err, IsTrue, if◌then◌else◌}
use Rattle.auction_rows.specs.{Book.{Book}, History.{book_after}}
use Rattle.auction_rows.specs.declared.{limits.Policy.Policy, values.Opening.Opening, requests.Object.Object, requests.Request.Request, requests.Opened.Opened, rows.Entry.Entry}
use Rattle.auction_text.specs.{Reading.{IsInputFault}, Scripts.{input_of}}
use Rattle.byte_texts.specs.Writing.{IsPartWritten}
use Rattle.item_shards.specs.OpeningRows.{AreRows, IsFirstBad, IsTooLong, opening_rows}
use Rattle.item_shards.specs.declared.openings.ResumeFault.{ResumeFault}
use Rattle.item_shards.specs.declared.openings.ResumeFault.TheVariants as resume
use Rattle.run_laws.specs.Answers.{IsAnswer}
use Rattle.program_opening.specs.Options.{commits_text, opening_asked, policy_of}
use Rattle.program_opening.specs.declared.faults.Fault.{Fault}
use Rattle.program_opening.specs.declared.faults.Fault.TheVariants.{Usage, Read, Resume, Row, Make, Run, Limit, Write, Report, OpenLog, Log}
use Rattle.program_opening.specs.declared.options.Options.{Options}
use Rattle.auction_program.specs.Report.{report_of}
use Rattle.auction_run.specs.Beginning.{HaveWorkers, HasShards, HasQuotas, AreShort}
use Rattle.auction_run.specs.RunFault.{RunFault}
use Rattle.auction_run.specs.RunFault.TheVariants as run

-- what is added to what the options ask for: the report, if they ask for it
abbrev pub added_text : Options → Book → List Entry → List (List Object) → List ℕ
added_text options book history hot =
    if options.report then report_of (opening_asked options)
    (book_after (opening_asked options) book history) history hot else []

-- The input has no fault and asks for these rows, each a row at its place, and for these scripts.
pub record AsksFor (options : Options) (input : List ℕ) (rows : List Opened)
    (scripts : List (List Request)) : Type 0 where
  pub reads : input_of options.workers input ≡ Ok (record { rows = rows; scripts = scripts })
  pub are_rows : AreRows (opening_asked options) rows

-- A run of these scripts from a book is within the limits: none of the four causes for which one
-- is refused.
abbrev pub IsAllowed : Policy → Book → List (List Request) → Type 0
IsAllowed policy book scripts =
    HaveWorkers book scripts × (HasShards policy × (HasQuotas policy × AreShort book scripts))

-- Two texts answer an input: what the options ask for of a run of its scripts, from the book of its
-- rows, and what is added.
pub record IsAnsweredBy (options : Options) (input : List ℕ) (text added : List ℕ) : Type 0 where
  -- what the input asks for
  pub rows : List Opened
  pub scripts : List (List Request)
  -- a run of that
  pub history : List Entry
  pub hot : List (List Object)
  -- the input has no fault
  pub asks : AsksFor options input rows scripts
  -- neither the rows nor the run are past a limit
  pub few : ¬ IsTooLong rows
  pub allowed : IsAllowed (policy_of options) (opening_rows (opening_asked options) rows) scripts
  -- the run answers the scripts, from the book of the rows
  pub runs : IsAnswer (opening_asked options) (opening_rows (opening_asked options) rows)
      (policy_of options) scripts hot history
  -- the first text is what the options ask for
  pub text_is : text ≡ commits_text options (opening_rows (opening_asked options) rows) history
  -- the second is the report, or nothing
  pub added_is : added ≡ added_text options (opening_rows (opening_asked options) rows) history hot

-- Two texts answer the input, and this holds of them.
pub record Answers (options : Options) (input : List ℕ)
    (Holds : List ℕ → List ℕ → Type 0) : Type 0 where
  pub text : List ℕ
  pub added : List ℕ
  pub answered : IsAnsweredBy options input text added
  pub holds : Holds text added

-- both were written whole
abbrev pub AreWritten : Option (List ℕ) → Option (List ℕ) → List ℕ → List ℕ → Type 0
AreWritten old new text added = Appends old new (text ++ added)

-- a prefix of both was written, and nothing else
abbrev pub ArePartWritten : Option (List ℕ) → Option (List ℕ) → List ℕ → List ℕ → Type 0
ArePartWritten old new text added = IsPartWritten old new (text ++ added)

-- nothing was written, or before a report the first one whole
abbrev pub IsOneWritten : Options → Option (List ℕ) → Option (List ℕ) → List ℕ → List ℕ → Type 0
IsOneWritten options old new text added =
    Keeps old new ⊎ (IsTrue options.report × Appends old new text)

-- The input has no fault, and this holds of the rows and scripts that it asks for.
pub record OfInput (options : Options) (input : List ℕ)
    (Holds : List Opened → List (List Request) → Type 0) : Type 0 where
  pub rows : List Opened
  pub scripts : List (List Request)
  pub reads : input_of options.workers input ≡ Ok (record { rows = rows; scripts = scripts })
  pub holds : Holds rows scripts

-- why an opening book was refused, by the rows
abbrev pub IsRefused : Opening → ResumeFault → List Opened → Type 0
IsRefused opening resume.TooLong rows = IsTooLong rows
IsRefused opening (resume.BadRow n) rows = (¬ IsTooLong rows) × IsFirstBad opening rows n
IsRefused opening resume.Memory rows = ¬ IsTooLong rows

-- why a run of scripts from a book was refused, by the first that doesn't hold; the last faults are
-- met while it goes on: Spawn if there is a thread to start, and of Memory no clause says when;
-- commit numbers suffice
abbrev pub IsNotRun : Policy → RunFault → Book → List (List Request) → Type 0
IsNotRun policy run.Workers book scripts = ¬ HaveWorkers book scripts
IsNotRun policy run.Shards book scripts = HaveWorkers book scripts × ¬ HasShards policy
IsNotRun policy run.Quota book scripts =
    HaveWorkers book scripts × (HasShards policy × ¬ HasQuotas policy)
IsNotRun policy run.TooLong book scripts =
    HaveWorkers book scripts × (HasShards policy × (HasQuotas policy × ¬ AreShort book scripts))
IsNotRun policy run.Spawn book scripts = 1 < length scripts
IsNotRun policy run.Memory book scripts = Unit {0}
IsNotRun policy run.NumberFull book scripts = ⊥

-- a fault that comes before anything is written
abbrev pub IsUnwritten : Fault → Type 0
IsUnwritten (Write fault) = ⊥
IsUnwritten (Usage fault) = Unit {0}
IsUnwritten (Read fault) = Unit {0}
IsUnwritten (Resume fault) = Unit {0}
IsUnwritten (Row number fault) = Unit {0}
IsUnwritten (Make fault) = Unit {0}
IsUnwritten (Run fault) = Unit {0}
IsUnwritten (Limit most) = Unit {0}
IsUnwritten Report = Unit {0}
IsUnwritten (OpenLog fault) = Unit {0}
IsUnwritten (Log fault) = Unit {0}

-- Why the program failed, by the input: a fault in the input is its first one, a row that is
-- refused is the first, and a run is refused for its first cause.
abbrev pub IsCausedBy : Options → List ℕ → Fault → Type 0
IsCausedBy options input (Usage fault) = ⊥
IsCausedBy options input (Read fault) =
    IsInputFault fault → input_of options.workers input ≡ Err fault
IsCausedBy options input (Resume fault) =
    OfInput options input (λ rows scripts. IsRefused (opening_asked options) fault rows)
IsCausedBy options input (Row number fault) = ⊥
IsCausedBy options input (Make fault) = IsTrue options.report
    × OfInput options input (λ rows scripts. AreRows (opening_asked options) rows)
IsCausedBy options input (Run fault) = OfInput options input (λ rows scripts.
    AreRows (opening_asked options) rows
    × IsNotRun (policy_of options) fault (opening_rows (opening_asked options) rows) scripts)
IsCausedBy options input (Limit most) = ⊥
IsCausedBy options input (Write fault) = Answers options input (λ text added. Unit {0})
IsCausedBy options input Report = ⊥
IsCausedBy options input (OpenLog fault) = ⊥
IsCausedBy options input (Log fault) = ⊥
