-- Why nothing is found of a history.
use Rattle.std.specs.Prelude.{ℕ, ◌≡◌, ◌<◌, ◌+◌, List, Option, IfSome, Ok, Err, length}
use Rattle.auction_rows.specs.declared.{values.Opening.Opening, limits.TheConstants.{MOST_ROWS}}
use Rattle.auction_rows.specs.declared.requests.{Request.Request, Opened.Opened}
use Rattle.auction_text.specs.{Reading.{IsInputFault}, Scripts.{input_of}}
use Rattle.item_shards.specs.OpeningRows.{AreRows, IsFirstBad, IsTooLong, opening_rows}
use Rattle.item_shards.specs.declared.openings.ResumeFault.{ResumeFault}
use Rattle.item_shards.specs.declared.openings.ResumeFault.TheVariants as resume
use Rattle.history_check.specs.{Texts.{lines_of}, declared.lines.CheckFault.{CheckFault}}
use Rattle.history_check.specs.declared.lines.CheckFault.TheVariants as checking
use Rattle.rubis_check.specs.declared.{faults.Fault.{Fault}, options.Options.{Options}}
use Rattle.rubis_check.specs.declared.faults.Fault.TheVariants.{Usage, Read, Resume, Check, History, Write}

-- The input has no fault, and this holds of the rows that it asks for.
pub record OfRows (options : Options) (input : List ℕ) (Holds : List Opened → Type 0) : Type 0 where
  pub rows : List Opened
  pub scripts : List (List Request)
  pub reads : input_of options.workers input ≡ Ok (record { rows = rows; scripts = scripts })
  pub holds : Holds rows

-- why an opening book was refused, by the rows
abbrev pub IsRefused : Opening → ResumeFault → List Opened → Type 0
IsRefused opening resume.TooLong rows = IsTooLong rows
IsRefused opening (resume.BadRow n) rows = (¬ IsTooLong rows) × IsFirstBad opening rows n
IsRefused opening resume.Memory rows = ¬ IsTooLong rows

-- why a history was not checked, by the book: of reading and of memory no clause says when
abbrev pub IsNotChecked : Opening → CheckFault → List Opened → Option (List ℕ) → Type 0
IsNotChecked opening checking.TooLong rows history = IfSome history (λ text.
    MOST_ROWS < length (opening_rows opening rows) + length (lines_of text))
IsNotChecked opening (checking.Read why) rows history = Unit {0}
IsNotChecked opening checking.Memory rows history = Unit {0}

-- Why nothing is found, by the input and the history: a fault in the input is its first one, a row
-- that is refused is the first, and only a history that is checked may be too long, or what is
-- found of it not written.
abbrev pub IsCausedBy : Options → List ℕ → Option (List ℕ) → Fault → Type 0
IsCausedBy options input history (Usage fault) = ⊥
IsCausedBy options input history (Read fault) =
    IsInputFault fault → input_of options.workers input ≡ Err fault
IsCausedBy options input history (Resume fault) =
    OfRows options input (IsRefused options.opening fault)
IsCausedBy options input history (Check fault) = OfRows options input (λ rows.
    AreRows options.opening rows × IsNotChecked options.opening fault rows history)
IsCausedBy options input history (History name why) = ⊥
IsCausedBy options input history (Write fault) = OfRows options input (AreRows options.opening)
