use Rattle.std.{proofs.Common.{◌≡◌, ap}, specs.{Io.KnownBytes.{Appends}, Prelude.{Err, IfSome}}}
use Rattle.byte_texts.specs.Writing.{IsPartWritten}
use Rattle.item_shards.specs.OpeningBooks as book
use Rattle.rubis_check.proofs.CauseLemmas.{error_is, not_checked, of_rows, refused}
use Rattle.rubis_check.proofs.{FaultLemmas.{unless_failed, write_is}, FindingLemmas.{tells}}
use Rattle.rubis_check.specs.Causes.{IsCausedBy, IsNotChecked, IsRefused}
use Rattle.rubis_check.specs.declared.faults.Fault.TheVariants.{Check, Resume, Write}
use Rattle.item_shards.specs.OpeningRows.{AreRows}
use Rattle.rubis_check.proofs.execution.execute.Goals as goal

pub returns-clause-tells : goal.returns-clause-tells
returns-clause-tells g c =
    tells c.args.options.now c.in_ok-input.input.rows.items c.deref.result.now (book.opening_of c.in_ok-book.book) (book.rows_of_book c.in_ok-book.book)
    c.check_history.new.line.items c.in_ok-verdict.verdict c.in_ok-book.ensures.opening c.in_ok-book.ensures.rows c.in_ok-book.ensures.accepted
    (g.I.Read.remaining c.args.reader) (g.H.Read.remaining c.args.history.now) _ c.deref.ensures.value c.in_ok-input.ensures.input
    c.in_ok-verdict.ensures.verdict c.in_ok-verdict.ensures.accepted
    c.deref-2.result.now (Appends (g.W.Write.contents c.args.writer.now) (g.W.Write.contents c.write_verdict.new.writer)) c.deref-2.ensures.value c.in_ok-write_verdict.ensures.whole

pub returns-in_err-write_verdict-clause-part : goal.returns-in_err-write_verdict-clause-part
returns-in_err-write_verdict-clause-part g c = λ is. record {
  verdict = c.in_ok-verdict.verdict;
  tells =
      tells c.args.options.now c.in_ok-input.input.rows.items c.deref.result.now (book.opening_of c.in_ok-book.book) (book.rows_of_book c.in_ok-book.book)
      c.check_history.new.line.items c.in_ok-verdict.verdict c.in_ok-book.ensures.opening c.in_ok-book.ensures.rows c.in_ok-book.ensures.accepted
      (g.I.Read.remaining c.args.reader) (g.H.Read.remaining c.args.history.now) _ c.deref.ensures.value c.in_ok-input.ensures.input
      c.in_ok-verdict.ensures.verdict c.in_ok-verdict.ensures.accepted
      c.deref-2.result.now (IsPartWritten (g.W.Write.contents c.args.writer.now) (g.W.Write.contents c.write_verdict.new.writer)) c.deref-2.ensures.value
      (c.in_err-write_verdict.ensures.part (ap Err (write_is c.from_residual-in_err-write_verdict.result _ _ c.from_residual-in_err-write_verdict.ensures is)));
}

pub returns-in_err-write_verdict-clause-unwritten : goal.returns-in_err-write_verdict-clause-unwritten
returns-in_err-write_verdict-clause-unwritten g c =
    unless_failed (c.write_verdict.new.writer ≡ c.args.writer.now) c.from_residual-in_err-write_verdict.result c.in_err-write_verdict.field-0.0 c.from_residual-in_err-write_verdict.ensures
    (λ is. c.in_err-write_verdict.ensures.memory (ap Err is))

pub returns-in_err-book-clause-cause : goal.returns-in_err-book-clause-cause
returns-in_err-book-clause-cause g c =
    let options = c.args.options.now in let fault = c.in_err-book.field-0.0 in
    let remaining = g.I.Read.remaining c.args.reader in let rows = c.in_ok-input.input.rows.items in
    error_is c.from_residual-in_err-book.result (Resume fault) (λ f. IfSome remaining (λ input. IsCausedBy options input (g.H.Read.remaining c.args.history.now) f)) c.from_residual-in_err-book.ensures
    (of_rows options rows c.in_ok-input.input.scripts.items remaining c.in_ok-input.ensures.input (IsRefused options.opening fault)
    (refused options.opening rows c.new.result fault c.in_err-book.was c.new.ensures.too_long c.new.ensures.bad_row))

pub returns-in_err-verdict-clause-cause : goal.returns-in_err-verdict-clause-cause
returns-in_err-verdict-clause-cause g c =
    let options = c.args.options.now in let fault = c.in_err-verdict.field-0.0 in
    let remaining = g.I.Read.remaining c.args.reader in let rows = c.in_ok-input.input.rows.items in
    let history = g.H.Read.remaining c.args.history.now in
    error_is c.from_residual-in_err-verdict.result (Check fault) (λ f. IfSome remaining (λ input. IsCausedBy options input history f)) c.from_residual-in_err-verdict.ensures
    (of_rows options rows c.in_ok-input.input.scripts.items remaining c.in_ok-input.ensures.input (λ rs. AreRows options.opening rs × IsNotChecked options.opening fault rs history)
    (c.in_ok-book.ensures.accepted, not_checked options.opening rows (book.rows_of_book c.in_ok-book.book) history c.check_history.result fault c.in_err-verdict.was c.check_history.ensures.too_long c.in_ok-book.ensures.rows))

pub returns-in_err-write_verdict-clause-cause : goal.returns-in_err-write_verdict-clause-cause
returns-in_err-write_verdict-clause-cause g c =
    let options = c.args.options.now in let remaining = g.I.Read.remaining c.args.reader in
    error_is c.from_residual-in_err-write_verdict.result (Write c.in_err-write_verdict.field-0.0) (λ f. IfSome remaining (λ input. IsCausedBy options input (g.H.Read.remaining c.args.history.now) f))
    c.from_residual-in_err-write_verdict.ensures
    (of_rows options c.in_ok-input.input.rows.items c.in_ok-input.input.scripts.items remaining c.in_ok-input.ensures.input (AreRows options.opening) c.in_ok-book.ensures.accepted)
