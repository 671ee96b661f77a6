-- What a log opens that was read and then cut.
use Rattle.std.proofs.Common.{◌≡◌, ◌++◌, ◌∙◌, [], ℕ, List, Option, Some, None, IfSome, arith, false, length, subst, sym}
use Rattle.std.{proofs.lemmas.List.{take-append-drop, take_all}, specs.Io.KnownBytes.{Appends}}
use Rattle.auction_rows.specs.Book.{Book}
use Rattle.auction_text.specs.RowLines.{rows_text}
use Rattle.log_file.specs.Faults.{NamesFile, text_cause}
use Rattle.log_file.specs.declared.faults.{LogCause.{LogCause}, LogFileFault.{LogFileFault}}
use Rattle.log_file.specs.declared.faults.LogFileFault.TheVariants.{At, Memory}
use Rattle.log_opening.specs.Opening.{HasRowsAndTail, Opens, OpensWith, TellsFirst}
use Rattle.log_opening.specs.declared.opening.{LoggedAuction.{LoggedAuction}, OpenFault.{OpenFault}}
use Rattle.part_log.specs.Files.{LogState}
use Rattle.program_opening.specs.Opened.{IsOpenedFrom, IsTextOf, text_fault}
use Rattle.program_opening.specs.declared.faults.Fault.{TheVariants.{OpenLog}, Fault}

-- a text is what its rows and its tail are
split_at : (text : List ℕ) (book : Book) (logged : LoggedAuction) → HasRowsAndTail text book logged → text ≡ rows_text book [] ++ logged.tail.items
split_at text book logged has =
    sym (take-append-drop logged.kept text) ∙ (λ i. has.rows i ++ sym has.tail i)

text_of : (text : Option (List ℕ)) (book : Book) (logged : LoggedAuction) (cut : ℕ) → OpensWith text book logged → cut ≡ length logged.tail.items → IfSome text (IsTextOf book cut)
text_of None book logged cut opens is = tt
text_of (Some text) book logged cut opens is = record {
  tail = logged.tail.items;
  text_is = split_at text book logged opens.text_is;
  cut_is = is;
  is_cut = opens.cut;
}

pub opened_from : (text told now : Option (List ℕ)) (logged : LoggedAuction) (log : LogState) (cut : ℕ) → Opens text told now logged → cut ≡ length logged.tail.items
    → ((book : Book) → OpensWith text book logged → IfSome text (λ _. log.accepted ≡ Some (rows_text book []))) → log.found ≡ log.accepted → log.has_ended ≡ false
    → IsOpenedFrom text told now logged.auction log cut
opened_from text told now logged log cut was is accepted found goes_on = record {
  book = was.book;
  start = was.opens.start;
  tells = was.tells;
  rows = text_of text was.book logged cut was.opens is;
  accepted = accepted was.book was.opens;
  found = found;
  goes_on = goes_on;
}

front : (text : Option (List ℕ)) (book : Book) (logged : LoggedAuction) → OpensWith text book logged → IfSome text (λ text. (rest : List ℕ) × (text ≡ rows_text book [] ++ rest))
front None book logged opens = tt
front (Some text) book logged opens = (logged.tail.items, split_at text book logged opens.text_is)

-- the rows of a log that was read were told whole
pub told_whole : (text told now : Option (List ℕ)) (logged : LoggedAuction) → Opens text told now logged → TellsFirst text told now
told_whole text told now logged was =
    let rows = rows_text was.book [] in record {
      book = was.book;
      part = (length rows, subst (Appends told now) (sym (take_all (length rows) rows (omega arith))) was.tells);
      text_is = front text was.book logged was.opens;
    }

of_file : (path : List ℕ) (cause : LogCause OpenFault) (told : LogFileFault OpenFault) (Q : OpenFault → Type 0) → NamesFile path cause told → IfSome (text_cause cause) Q → IfSome (text_fault (OpenLog told)) Q
of_file path cause (At name is) Q names holds = subst (λ c. IfSome (text_cause c) Q) (sym names.1) holds
of_file path cause Memory Q names holds = tt

-- a fault that names a log and a cause tells what is wrong with its text if the cause does
pub tells_cause : (path : List ℕ) (cause : LogCause OpenFault) (told : LogFileFault OpenFault) (fault : Fault) (Q : OpenFault → Type 0) → NamesFile path cause told → fault ≡ OpenLog told
    → IfSome (text_cause cause) Q → IfSome (text_fault fault) Q
tells_cause path cause told fault Q names same holds = subst (λ f. IfSome (text_fault f) Q) (sym same) (of_file path cause told Q names holds)
