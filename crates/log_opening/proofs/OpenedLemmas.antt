-- What a prefix of a log opens is the first rows of its book.
use Rattle.std.proofs.Common.{arith, All, ◌≡◌, ◌≤◌, ◌∙◌, [], ℕ, List, Some, length, take, sym, ap, subst}
use Rattle.std.proofs.lemmas.List.Elements.{recursion_from_All}
use Rattle.auction_rows.specs.{Book.{Book}, History.{IsBook}, declared.values.Opening.{Opening}}
use Rattle.auction_text.specs.{Replies.{lines}, RowLines.{row_line, rows_text}}
use Rattle.log_opening.proofs.RecoveryLemmas.{front, front_goes_on, text_alone}
use Rattle.log_opening.{proofs.SameRowsLemmas.{same_book}, specs.Lines.{AreWholeLines}}
use Rattle.log_opening.specs.{Opening.{OpensWith}, ReadBack.{IsWritten}, Recovery.{AreFirstOf}}
use Rattle.log_opening.specs.declared.opening.LoggedAuction.{LoggedAuction}
use Rattle.phase_laws.proofs.ListLemmas.{all-take}

pub opens_first : (opening : Opening) (workers : ℕ) (book rows : Book) (n : ℕ) (opened : LoggedAuction) → workers ≤ 16 → IsBook opening book → All (IsWritten workers) book → opened.auction.opening ≡ opening
    → length opened.auction.counters ≡ workers → OpensWith (Some (take n (rows_text book []))) rows opened → AreFirstOf book n rows
opens_first opening workers book rows n opened few is written same_opening same_workers opens =
    let all = recursion_from_All (IsWritten workers) book written in let text = opens.text_is in
    let f = front workers book n opened.kept (omega (arith, few)) all (subst (λ (xs : List ℕ). AreWholeLines (take n xs) opened.kept) (text_alone book) text.lines) in
    let lines_are : lines row_line rows ≡ lines row_line (take f.count book) =
    sym (text_alone rows) ∙ sym text.rows ∙ ap (λ (xs : List ℕ). take opened.kept (take n xs)) (text_alone book) ∙ f.is in
    let own = recursion_from_All (IsWritten workers) rows (subst (λ (w : ℕ). All (IsWritten w) rows) same_workers opens.written) in
    record {
      count = f.count;
      within = f.within;
      rows_are = same_book opening workers rows (take f.count book) few (subst (λ (o : Opening). IsBook o rows) same_opening opens.start.is_of.is_book) (front_goes_on opening [] book f.count is) own
          (all-take (IsWritten workers) f.count book all) lines_are;
      begins = λ accepted within fits. f.begins accepted within (subst (λ (xs : List ℕ). length xs ≤ n) (text_alone (take accepted book)) fits);
    }
