use Rattle.std.proofs.Common.{◌≡◌, IfSome, ap, subst, ◌∙◌}
use Rattle.item_shards.specs.OpeningRows.{AreRows, opening_rows}
use Rattle.item_shards.specs.OpeningBooks as book
use Rattle.program_opening.{proofs.ErrorLemmas.{error_is}, specs.Options.{opening_asked}}
use Rattle.program_opening.specs.declared.faults.Fault.TheVariants.{Resume, Write}
use Rattle.auction_program.proofs.Answering.{answered, not_long, not_performed, of_input, refused, write_is}
use Rattle.auction_program.specs.Execution.{ArePartWritten, AreWritten, IsCausedBy, IsOneWritten, IsRefused}
use Rattle.auction_program.specs.inner.Performing.{IsNotPerformed}
use Rattle.auction_program.proofs.execution.execute.Goals as goal

pub returns-in_err-book-clause-cause : goal.returns-in_err-book-clause-cause
returns-in_err-book-clause-cause g c =
    let options = c.args.options.now in let rows = c.in_ok-input.input.rows.items in
    let fault = c.in_err-book.field-0.0 in let remaining = g.I.Read.remaining c.args.reader in
    error_is c.from_residual-in_err-book.result (Resume fault) (λ f. IfSome remaining (λ input. IsCausedBy options input f)) c.from_residual-in_err-book.ensures
    (of_input options rows c.in_ok-input.input.scripts.items remaining c.in_ok-input.ensures.input (λ rs ss. IsRefused (opening_asked options) fault rs)
    (subst (λ o. IsRefused o fault rows) c.opening.ensures (refused c.opening.result rows c.new.result fault c.in_err-book.was c.new.ensures.too_long c.new.ensures.bad_row)))

pub returns-in_err-performed-clause-cause : goal.returns-in_err-performed-clause-cause
returns-in_err-performed-clause-cause g c =
    let options = c.args.options.now in let rows = c.in_ok-input.input.rows.items in
    let scripts = c.in_ok-input.input.scripts.items in let fault = c.in_err-performed.field-0.0 in
    let remaining = g.I.Read.remaining c.args.reader in
    let opens : book.rows_of_book c.in_ok-book.book ≡ opening_rows (opening_asked options) rows = c.in_ok-book.ensures.rows ∙ ap (λ o. opening_rows o rows) c.opening.ensures in
    error_is c.from_residual-in_err-performed.result fault (λ f. IfSome remaining (λ input. IsCausedBy options input f)) c.from_residual-in_err-performed.ensures
    (not_performed options rows scripts remaining c.in_ok-input.ensures.input fault
    (subst (λ o. AreRows o rows) c.opening.ensures c.in_ok-book.ensures.accepted)
    (subst (λ b. IsNotPerformed options fault b scripts) opens c.in_err-performed.ensures.cause))

pub returns-in_err-write_texts-clause-part : goal.returns-in_err-write_texts-clause-part
returns-in_err-write_texts-clause-part g c = λ is.
    answered c.args.options.now _ _ (g.I.Read.remaining c.args.reader) c.in_ok-input.ensures.input _ _ _ _ c.opening.ensures c.in_ok-book.ensures.rows c.rows.ensures.rows
    c.in_ok-book.ensures.accepted (not_long c.in_ok-input.input.rows.items c.new.result c.in_ok-book.book c.in_ok-book.was c.new.ensures.too_long)
    c.in_ok-performed.ensures.performs (ArePartWritten (g.W.Write.contents c.args.writer.now) (g.W.Write.contents c.write_texts.new.writer))
    (c.in_err-write_texts.ensures.part (write_is _ _ _ c.from_residual-in_err-write_texts.ensures is))

pub returns-in_err-write_texts-clause-memory : goal.returns-in_err-write_texts-clause-memory
returns-in_err-write_texts-clause-memory g c = λ is.
    let options = c.args.options.now in
    answered options _ _ (g.I.Read.remaining c.args.reader) c.in_ok-input.ensures.input _ _ _ _ c.opening.ensures c.in_ok-book.ensures.rows c.rows.ensures.rows
    c.in_ok-book.ensures.accepted (not_long c.in_ok-input.input.rows.items c.new.result c.in_ok-book.book c.in_ok-book.was c.new.ensures.too_long)
    c.in_ok-performed.ensures.performs (IsOneWritten options (g.W.Write.contents c.args.writer.now) (g.W.Write.contents c.write_texts.new.writer))
    (c.in_err-write_texts.ensures.memory (write_is _ _ _ c.from_residual-in_err-write_texts.ensures is))

pub returns-in_err-write_texts-clause-cause : goal.returns-in_err-write_texts-clause-cause
returns-in_err-write_texts-clause-cause g c =
    let options = c.args.options.now in let remaining = g.I.Read.remaining c.args.reader in
    error_is c.from_residual-in_err-write_texts.result (Write c.in_err-write_texts.field-0.0) (λ f. IfSome remaining (λ input. IsCausedBy options input f))
    c.from_residual-in_err-write_texts.ensures
    (answered options _ _ remaining c.in_ok-input.ensures.input _ _ _ _ c.opening.ensures c.in_ok-book.ensures.rows c.rows.ensures.rows
    c.in_ok-book.ensures.accepted (not_long c.in_ok-input.input.rows.items c.new.result c.in_ok-book.book c.in_ok-book.was c.new.ensures.too_long)
    c.in_ok-performed.ensures.performs (λ text added. Unit {0}) tt)

pub returns-clause-answers : goal.returns-clause-answers
returns-clause-answers g c =
    answered c.args.options.now _ _ (g.I.Read.remaining c.args.reader) c.in_ok-input.ensures.input _ _ _ _ c.opening.ensures c.in_ok-book.ensures.rows c.rows.ensures.rows
    c.in_ok-book.ensures.accepted (not_long c.in_ok-input.input.rows.items c.new.result c.in_ok-book.book c.in_ok-book.was c.new.ensures.too_long)
    c.in_ok-performed.ensures.performs (AreWritten (g.W.Write.contents c.args.writer.now) (g.W.Write.contents c.write_texts.new.writer))
    c.in_ok-write_texts.ensures.whole
