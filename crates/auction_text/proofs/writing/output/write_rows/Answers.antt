use Rattle.auction_text.proofs.MadeTexts.{written_as}
use Rattle.auction_text.proofs.writing.output.write_rows.Goals as goal

pub returns : goal.returns
returns g c =
    let wrote = c.write_made.ensures in
    written_as g.W.Write.contents _ _ _ c.rows_text.result c.write_made.result c.rows_text.ensures wrote.whole wrote.part wrote.memory
