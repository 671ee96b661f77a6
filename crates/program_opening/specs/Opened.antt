-- What a start opens of a log.
use Rattle.std.specs.Io.KnownBytes.{Appends}
use Rattle.std.specs.Prelude.{◌≡◌, ◌++◌, ℕ, true, false, List, [], Option, None, Some, IfSome, length}
use Rattle.auction_rows.specs.Book.{Book}
use Rattle.phase_floor.specs.{Adding.{IsStartOf}, States.{JoinedState}}
use Rattle.auction_text.specs.RowLines.{rows_text}
use Rattle.log_file.specs.Faults.{text_cause}
use Rattle.log_file.specs.declared.faults.LogFileFault.TheVariants.{At}
use Rattle.part_log.specs.Files.{LogState}
use Rattle.log_opening.specs.{CutRows.{is_cut_row}, declared.opening.OpenFault.{OpenFault}}
use Rattle.program_opening.specs.declared.faults.Fault.{TheVariants.{OpenLog}, Fault}

-- what is wrong with the text of a log, if this fault tells it
abbrev pub text_fault : Fault → Option OpenFault
text_fault (OpenLog (At name cause)) = text_cause cause
text_fault _ = None

-- A text is that of a book's rows, and of a cut row behind them, which has so many bytes.
pub record IsTextOf (book : Book) (cut : ℕ) (text : List ℕ) : Type 0 where
  pub tail : List ℕ
  pub text_is : text ≡ rows_text book [] ++ tail
  pub cut_is : cut ≡ length tail
  pub is_cut : is_cut_row tail ≡ true

-- A log with this text, if it is known, was opened: the auction is a start of the book of its rows,
-- whose text was told.
pub record IsOpenedFrom (text told now : Option (List ℕ)) (auction : JoinedState) (log : LogState)
    (cut : ℕ) : Type 0 where
  pub book : Book
  pub start : IsStartOf auction book
  pub tells : Appends told now (rows_text book [])
  -- the text is that of these rows, and of what was cut off
  pub rows : IfSome text (IsTextOf book cut)
  -- the log has accepted just these rows, a start finds just these, and it puts more by
  pub accepted : IfSome text (λ _. log.accepted ≡ Some (rows_text book []))
  pub found : log.found ≡ log.accepted
  pub goes_on : log.has_ended ≡ false
