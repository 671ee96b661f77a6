use Rattle.std.proofs.Common.{ap, ◌∙◌, subst}
use Rattle.auction_text.specs.{Moved.{gone_by}, RowLines.{rows_text}}
use Rattle.byte_texts.specs.Writing.{WritesText}
use Rattle.program_serving.proofs.ToldLemmas.{rows_asked}
use Rattle.program_serving.proofs.telling.write_asked.Goals as goal

pub returns-then-options : goal.returns-then-options
returns-then-options g c =
    let history = c.args.committed.now.history.entries in
    subst (λ t. WritesText g.W.Write.contents c.args.writer.now c.write_rows.new.writer t c.write_rows.result)
    (ap (λ rows. rows_text rows history) c.as_slice.ensures.value ∙ rows_asked c.args.options.now (gone_by c.args.committed.now.before) c.args.committed.now.rows.items history c.if-options.true) c.write_rows.ensures
