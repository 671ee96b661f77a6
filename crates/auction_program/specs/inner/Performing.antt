-- What performing a run gives, why it is not performed, and which texts are written of it.
use Rattle.std.specs.Prelude.{ℕ, ◌≡◌, List, IfSome, IsTrue}
use Rattle.auction_rows.specs.{Book.{Book}, History.{book_after}}
use Rattle.auction_rows.specs.declared.{values.Opening.Opening, requests.Request.Request}
use Rattle.item_shards.specs.OpeningBooks.{opening_of, rows_of_book}
use Rattle.run_laws.specs.Answers.{IsAnswer}
use Rattle.program_opening.specs.Options.{commits_text, opening_asked, policy_of}
use Rattle.program_opening.specs.declared.faults.Fault.{Fault}
use Rattle.program_opening.specs.declared.faults.Fault.TheVariants.{Usage, Read, Resume, Row, Make, Run, Limit, Write, Report, OpenLog, Log}
use Rattle.program_opening.specs.declared.options.Options.{Options}
use Rattle.auction_program.specs.Execution.{added_text, IsAllowed, IsNotRun}
use Rattle.auction_program.specs.declared.asked.{AskedRun.{AskedRun}, AskedTexts.{AskedTexts}, Performed.{Performed}}
use Rattle.auction_program.specs.inner.Views.{AreViews}
use Rattle.auction_run.specs.Phases.{hot_sets}

-- what the options ask for of a run
abbrev pub commits_of : AskedTexts → List ℕ
commits_of texts =
    commits_text texts.options.now texts.rows.now texts.performed.now.history.entries

-- what is added to that
abbrev pub added_of : AskedTexts → List ℕ
added_of texts =
    added_text texts.options.now texts.rows.now texts.performed.now.history.entries
    (hot_sets texts.performed.now.hot.items)

-- the lines of its report, if there are some, are the views that the book at its end gives
abbrev pub HasLastViews : Options → Book → Performed → Type 0
HasLastViews options rows performed = IfSome performed.lines (λ shown.
    AreViews (opening_asked options)
    (book_after (opening_asked options) rows performed.history.entries)
    shown.categories.items shown.users.items)

-- The scripts are performed from a book: the run is within the limits, its history answers them,
-- and its lines are the last views.
pub record Performs (options : Options) (book : Book) (scripts : List (List Request))
    (performed : Performed) : Type 0 where
  pub allowed : IsAllowed (policy_of options) book scripts
  pub answer : IsAnswer (opening_asked options) book (policy_of options) scripts
      (hot_sets performed.hot.items) performed.history.entries
  pub lines : HasLastViews options book performed

-- why scripts were not performed: no window could be made for a report, or the run was refused
abbrev pub IsNotPerformed : Options → Fault → Book → List (List Request) → Type 0
IsNotPerformed options (Usage fault) book scripts = ⊥
IsNotPerformed options (Read fault) book scripts = ⊥
IsNotPerformed options (Resume fault) book scripts = ⊥
IsNotPerformed options (Row number fault) book scripts = ⊥
IsNotPerformed options (Make fault) book scripts = IsTrue options.report
IsNotPerformed options (Run fault) book scripts = IsNotRun (policy_of options) fault book scripts
IsNotPerformed options (Limit most) book scripts = ⊥
IsNotPerformed options (Write fault) book scripts = ⊥
IsNotPerformed options Report book scripts = ⊥
IsNotPerformed options (OpenLog fault) book scripts = ⊥
IsNotPerformed options (Log fault) book scripts = ⊥

-- the run that was asked for is performed
abbrev pub PerformsAsked : AskedRun → Performed → Type 0
PerformsAsked asked =
    Performs asked.options.now (rows_of_book asked.book.now) asked.scripts.items

-- and why it was not
abbrev pub RefusesAsked : AskedRun → Fault → Type 0
RefusesAsked asked fault =
    IsNotPerformed asked.options.now fault (rows_of_book asked.book.now) asked.scripts.items

-- It is from this opening and these rows.
pub record IsFrom (asked : AskedRun) (opening : Opening) (rows : Book) : Type 0 where
  pub opening_is : opening_of asked.book.now ≡ opening
  pub rows_are : rows_of_book asked.book.now ≡ rows
