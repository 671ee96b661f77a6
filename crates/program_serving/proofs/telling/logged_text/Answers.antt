use Rattle.std.proofs.Common.{◌++◌, ◌∙◌, ap}
use Rattle.auction_text.specs.RowLines.{rows_text}
use Rattle.program_serving.proofs.ToldLemmas.{if_known}
use Rattle.program_serving.proofs.telling.logged_text.Goals as goal

pub returns-in-Ok-clause-text : goal.returns-in-Ok-clause-text
returns-in-Ok-clause-text g c =
    let history = c.args.committed.now.history.entries in
    if_known (g.L.Log.accepted c.args.teller.now.log) _ ((rw c.in-Ok.is at c.write_rows.ensures.whole)
    ∙ ap (λ text. text ++ rows_text c.as_slice.result.now history) c.new-text.ensures.items ∙ ap (λ rows. rows_text rows history) c.as_slice.ensures.value)
