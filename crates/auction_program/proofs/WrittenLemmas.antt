-- Two texts, written one after the other.
use Rattle.std.proofs.Common.{◌≡◌, Bool, true, if◌then◌else◌, Some, IfSome, ℕ, ◌≤◌, min, List, [], ◌++◌, Option, length, append-nil, sym, subst, ◌∙◌, ap, arith}
use Rattle.std.{proofs.lemmas.List.{take-append-le, take_min}, specs.Io.KnownBytes.{Appends}}
use Rattle.auction_rows.specs.Book.{Book}
use Rattle.auction_rows.specs.declared.{values.Opening.Opening, requests.Object.Object, rows.Entry.Entry}
use Rattle.auction_text.specs.Report.{report_text}
use Rattle.auction_text.specs.declared.writing.report.ReportLines.{ReportLines}
use Rattle.byte_texts.specs.Writing.{IsPartWritten}
use Rattle.auction_program.specs.{Report.{report_of}, inner.Views.{AreViews}}

module _ (old new : Option (List ℕ)) (text added : List ℕ) where
  pub nothing_added : added ≡ [] → Appends old new text → Appends old new (text ++ added)
  nothing_added none first = subst (Appends old new) (sym (append-nil text) ∙ ap (λ a. text ++ a) (sym none)) first

  pub part_of_first : IsPartWritten old new text → IsPartWritten old new (text ++ added)
  part_of_first part =
      let n = min part.0 (length text) in let within : n ≤ length text = omega arith in
      (n, subst (Appends old new) (sym (take_min part.0 text) ∙ sym (take-append-le n text added within)) part.1)

-- the text of a report whose views are those of a book is what is added where one is asked for
pub report_added : (report : Bool) (opening : Opening) (book : Book) (history : List Entry) (hot given : List (List Object)) (lines : Option ReportLines) (shown : ReportLines)
    → lines ≡ Some shown → IfSome lines (λ s. AreViews opening book s.categories.items s.users.items) → given ≡ hot → report ≡ true
    → report_text history given shown.categories.items shown.users.items ≡ (if report then report_of opening book history hot else [])
report_added report opening book history hot given lines shown is views hots asked =
    let are = subst (λ o. IfSome o (λ (s : ReportLines). AreViews opening book s.categories.items s.users.items)) is views in
    let cs = are.categories_are in let us = are.users_are in
    let same : report_text history given shown.categories.items shown.users.items ≡ report_of opening book history hot = cc in
    same ∙ ap (λ b. if b then report_of opening book history hot else []) (sym asked)
