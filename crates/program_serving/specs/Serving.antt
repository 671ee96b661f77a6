-- What the program answers while requests come.
use Rattle.std.specs.Io.KnownBytes.{Appends, Keeps}
use Rattle.std.specs.Prelude.{ℕ, ◌≡◌, ◌==◌, ◌≤◌, ◌+◌, ◌++◌, ◌⊎◌, ◌||◌, Bool, false, List, [], ◌∷◌, Option, None, Some, flat_map, fold, length, slice_index_or, if◌then◌else◌}
use Rattle.auction_rows.specs.{Book.{Book}, History.{book_after}}
use Rattle.auction_rows.specs.declared.{values.Opening.Opening, requests.Object.Object, requests.Request.Request, requests.Opened.Opened, rows.Entry.Entry}
use Rattle.program_serving.specs.FaultLines.{answer_line, fault_text, limit_text}
use Rattle.auction_text.specs.{LiveReading.{records_said}, Moved.{Gone, all_moved}, Record.{Record}}
use Rattle.auction_text.specs.{RowLines.{rows_text}, Said.{Said}}
use Rattle.auction_text.specs.Scripts.{asked_in, requests_in, rows}
use Rattle.auction_text.specs.Said.TheVariants as says
use Rattle.byte_texts.specs.Writing.{IsPartWritten}
use Rattle.item_shards.specs.OpeningRows.{rows_by}
use Rattle.log_opening.specs.Parts.{AreRowsFrom, rows_from}
use Rattle.part_log.specs.declared.log.Teller.{Teller}
use Rattle.run_laws.specs.Answers.{IsAnswer}
use Rattle.shard_boxes.specs.declared.limits.TheConstants.{MOST_COMMITS}
use Rattle.program_opening.specs.Options.{commits_text, opening_asked, policy_of}
use Rattle.program_opening.specs.declared.options.Options.{Options}

-- A part: what its records say, the rows that it adds to the auction, and then the hot sets and the
-- history of a run of its requests.
pub record PartRun : Type 0 where
  pub said : List Record
  pub added : Book
  pub hot : List (List Object)
  pub history : List Entry

-- A part of an input is run, or a line is answered that has a fault, or a request past a limit.
pub data Step : Type 0 where
  Part : PartRun → Step
  Answer : Said → Step

-- what the lines say that are served so
abbrev pub step_said : Step → List Said
step_said (Part part) = records_said part.said
step_said (Answer line) = line ∷ []

-- ---- what is run

-- Requests are rows from a book on, each at its place, and this is what they add to it.
pub record AddsRows (opening : Opening) (book : Book) (asked : List Opened) (added : Book)
    : Type 0 where
  pub are_rows : AreRowsFrom opening book asked
  pub adds : rows_from opening book asked ≡ book ++ added

-- the scripts of records
abbrev pub scripts_in : Options → List Record → List (List Request)
scripts_in options said = (asked_in options.workers said).scripts

-- A part is run from a book: it adds its rows, its history and hot sets answer its scripts from
-- there, and it has no more requests than are answered at a time.
pub record IsPartRun (options : Options) (book : Book) (part : PartRun) : Type 0 where
  pub few : 1 ≤ options.live → requests_in part.said ≤ options.live
  pub adds : AddsRows (opening_asked options) book (rows part.said) part.added
  pub answer : IsAnswer (opening_asked options) (book ++ part.added) (policy_of options)
      (scripts_in options part.said) part.hot part.history

-- whether a line that is turned away ends the input
abbrev pub ends_at_fault : Options → Bool
ends_at_fault options = options.ends_at_fault || (options.live == 0)

-- a line is turned away behind a book: it has a fault, or it is a request, and its worker has as
-- many rows as it may have
abbrev pub IsTurnedAway : Book → Said → Type 0
IsTurnedAway book (says.Fault met) = Unit {0}
IsTurnedAway book (says.Record one) =
    (one.is_row ≡ false) × (MOST_COMMITS ≤ rows_by book one.worker)

-- a step is taken from this book: a line is answered so only if it is turned away, and does not end
-- the input
abbrev pub IsStepRun : Options → Book → Step → Type 0
IsStepRun options book (Part part) = IsPartRun options book part
IsStepRun options book (Answer line) = (ends_at_fault options ≡ false) × IsTurnedAway book line

-- the book that a step leaves: an answer changes nothing
abbrev pub book_past : Options → Book → Step → Book
book_past options book (Part part) =
    book_after (opening_asked options) (book ++ part.added) part.history
book_past options book (Answer line) = book

-- each step is taken from the book that those before it leave
unfoldable pub AreStepRuns : Options → Book → List Step → Type 0
AreStepRuns options book [] = Unit {0}
AreStepRuns options book (step ∷ more) = IsStepRun options book step
    × AreStepRuns options (book_past options book step) more

-- the book that steps leave
abbrev pub book_left : Options → Book → List Step → Book
book_left options = fold (book_past options)

-- Of what lines say, some is served in steps from a book, and the rest is left.
pub record IsServed (options : Options) (book : Book) (all : List Said) (steps : List Step)
    (rest : List Said) : Type 0 where
  pub all_is : all ≡ flat_map step_said steps ++ rest
  pub runs : AreStepRuns options book steps

-- ---- what is logged and written

-- nothing went before
abbrev pub nothing_gone : Gone
nothing_gone = record { phases = 0; requests = λ worker. 0 }

-- what went before what follows a step: an answer is no request
abbrev pub gone_past : Options → Gone → Step → Gone
gone_past options gone (Part part) = record {
  phases = gone.phases + length part.hot;
  requests = λ worker. gone.requests worker
      + length (slice_index_or (scripts_in options part.said) worker []);
}
gone_past options gone (Answer line) = gone

-- what went before what follows steps
abbrev pub gone_after : Options → List Step → Gone
gone_after options steps = fold (gone_past options) nothing_gone steps

-- what the options ask for of a part that adds these rows and has this history, after what went
-- before it
abbrev pub part_text : Options → Gone → Book → List Entry → List ℕ
part_text options gone added history = commits_text options added (all_moved gone history)

-- this holds of what a part logs that adds these rows and has this history, and of what is written
-- of it
abbrev pub OfPart : Options → Gone → Book → List Entry → (List ℕ → List ℕ → Type 0) → Type 0
OfPart options gone added history Holds =
    Holds (rows_text added history) (part_text options gone added history)

-- the answer in these words, if a worker is named: with the index of its next request
abbrev pub named_answer : Gone → Option ℕ → List ℕ → List ℕ
named_answer gone None words = []
named_answer gone (Some worker) words = answer_line worker (gone.requests worker) words

-- the answer in these words to a line that is turned away, after what went before it, if the
-- options ask for replies
abbrev pub turned_answer : Options → Gone → Option ℕ → List ℕ → List ℕ
turned_answer options gone worker words =
    if options.rows || options.history then [] else named_answer gone worker words

-- the answer to a line that is turned away
abbrev pub line_answer : Options → Gone → Said → List ℕ
line_answer options gone (says.Fault met) =
    turned_answer options gone met.worker (fault_text met.fault)
line_answer options gone (says.Record one) =
    turned_answer options gone (Some one.worker) (limit_text MOST_COMMITS)

-- what is written of a step
abbrev pub step_text : Options → Gone → Step → List ℕ
step_text options gone (Part part) = part_text options gone part.added part.history
step_text options gone (Answer line) = line_answer options gone line

-- what is written of steps: phases and indexes go on counting
unfoldable pub served_text : Options → Gone → List Step → List ℕ
served_text options gone [] = []
served_text options gone (step ∷ more) =
    step_text options gone step ++ served_text options (gone_past options gone step) more

-- the rows that are logged of a step
abbrev pub step_rows : Step → List ℕ
step_rows (Part part) = rows_text part.added part.history
step_rows (Answer line) = []

-- the rows that are logged of steps
abbrev pub served_rows : List Step → List ℕ
served_rows steps = flat_map step_rows steps

-- All that lines say is served, and this holds of the rows and of the text.
pub record ServesAll (options : Options) (book : Book) (all : List Said)
    (Holds : List ℕ → List ℕ → Type 0) : Type 0 where
  pub steps : List Step
  pub served : IsServed options book all steps []
  pub holds : Holds (served_rows steps) (served_text options nothing_gone steps)

-- The first of what lines say is served, and this holds of the rows and of the text.
pub record ServesFirst (options : Options) (book : Book) (all : List Said)
    (Holds : List ℕ → List ℕ → Type 0) : Type 0 where
  pub steps : List Step
  pub rest : List Said
  pub served : IsServed options book all steps rest
  pub holds : Holds (served_rows steps) (served_text options nothing_gone steps)

-- What may be told: whole, rows are logged and a text is written; in part, the rows are logged and
-- of the text a prefix is written; or nothing is logged or written.
pub record Telling : Type 1 where
  pub whole : List ℕ → List ℕ → Type 0
  pub part : List ℕ → List ℕ → Type 0
  pub nothing : Type 0

-- what is told between two states of a log and a writer, of which so much is known
abbrev pub told_by : {L W : Type 0} → (L → Option (List ℕ)) → (W → Option (List ℕ)) →
    Teller L W → Teller L W → Telling
told_by accepted contents old new = record {
  whole = λ rows text. Appends (accepted old.log) (accepted new.log) rows
      × Appends (contents old.writer) (contents new.writer) text;
  part = λ rows text. Appends (accepted old.log) (accepted new.log) rows
      × IsPartWritten (contents old.writer) (contents new.writer) text;
  nothing = Keeps (accepted old.log) (accepted new.log)
      × Keeps (contents old.writer) (contents new.writer);
}

-- no byte is written of a part whose rows are not logged: those of the parts that are written, to
-- the last one's, are
abbrev pub IsLoggedBefore : Telling → Options → Book → List Said → Type 0
IsLoggedBefore told options book all = ServesFirst options book all told.part

-- a log has the rows of a book, and nothing else
abbrev pub LogHasBook : Option (List ℕ) → Book → Type 0
LogHasBook accepted book = accepted ≡ Some (rows_text book [])

-- The first of what lines say is served from a book, and a log has the book that this leaves.
pub record HasServedBook (accepted : Option (List ℕ)) (options : Options) (book : Book)
    (all : List Said) : Type 0 where
  pub steps : List Step
  pub rest : List Said
  pub served : IsServed options book all steps rest
  pub has : LogHasBook accepted (book_left options book steps)

-- ---- the history of all parts

-- the history of a step: an answer is none
abbrev pub step_history : Step → List Entry
step_history (Part part) = part.history
step_history (Answer line) = []

-- the rows that a step adds
abbrev pub step_added : Step → Book
step_added (Part part) = part.added
step_added (Answer line) = []

-- the rows that steps add
abbrev pub added_rows : List Step → Book
added_rows steps = flat_map step_added steps

-- no rows are added behind a history
unfoldable pub RowsComeFirst : List Step → Type 0
RowsComeFirst [] = Unit {0}
RowsComeFirst (step ∷ more) =
    ((step_history step ≡ []) ⊎ (added_rows more ≡ [])) × RowsComeFirst more

-- the history of all steps, one after the other: phases and indexes go on counting
unfoldable pub served_history : Options → Gone → List Step → List Entry
served_history options gone [] = []
served_history options gone (step ∷ more) =
    all_moved gone (step_history step) ++ served_history options (gone_past options gone step) more
