-- From what serving begins, and what a part does.
use Rattle.std.specs.Prelude.{ℕ, ◌++◌, List, flat_map, length}
use Rattle.auction_rows.specs.Book.{Book}
use Rattle.auction_rows.specs.declared.{requests.Object.Object, rows.Entry.Entry}
use Rattle.auction_text.specs.{LiveParts.{rows_said}, Moved.{Gone}, Scripts.{Asked}}
use Rattle.phase_floor.specs.States.{IsBookOf, JoinedState}
use Rattle.run_laws.specs.Answers.{IsAnswer}
use Rattle.program_opening.specs.Options.{FitsOptions, opening_asked, policy_of}
use Rattle.program_opening.specs.declared.options.Options.{Options}
use Rattle.program_serving.specs.Serving.{AddsRows, OfPart, Step, step_said}

-- The options' auction has the rows of this book.
pub record IsStart (options : Options) (auction : JoinedState) (book : Book) : Type 0 where
  pub fits : FitsOptions options auction
  pub of : IsBookOf auction book

-- What is asked for is done from a book: rows are added and scripts run from there, and this holds
-- of the rows that this adds and of the text.
pub record RunsPart (options : Options) (book : Book) (gone : Gone) (asked : Asked)
    (Holds : List ℕ → List ℕ → Type 0) : Type 0 where
  pub added : Book
  pub hot : List (List Object)
  pub history : List Entry
  pub adds : AddsRows (opening_asked options) book asked.rows added
  pub answer : IsAnswer (opening_asked options) (book ++ added) (policy_of options) asked.scripts
      hot history
  pub holds : OfPart options gone added history Holds

-- how many rows lines say that are served in these steps
abbrev pub rows_before : List Step → ℕ
rows_before steps = length (rows_said (flat_map step_said steps))
