use Rattle.auction_text.proofs.PutLemmas.{writes_last, writes_part}
use Rattle.auction_text.proofs.writing.output.write_history_on.Goals as goal

pub returns-in_err-put_entries : goal.returns-in_err-put_entries
returns-in_err-put_entries g c =
    let part = c.in_err-put_entries.ensures.part in
    writes_part g.W.Write.contents _ _ c.new-block.result _ c.from_residual.result c.in_err-put_entries.field-0.0 c.new-block.ensures c.from_residual.ensures.1 part.0 part.1

pub returns : goal.returns
returns g c =
    let wrote = c.write_last.ensures in let bytes = c.bytes.ensures in
    writes_last g.W.Write.contents _ _ _ _ _ _ c.new-block.ensures c.write_last.result c.in_ok-put_entries.ensures.whole (rw bytes at wrote.whole) (rw bytes at wrote.part)
