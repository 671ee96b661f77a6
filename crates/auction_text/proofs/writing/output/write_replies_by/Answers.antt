use Rattle.auction_text.proofs.PutLemmas.{writes_last, writes_part}
use Rattle.auction_text.proofs.writing.output.write_replies_by.Goals as goal

pub returns-in_err-put_all_replies : goal.returns-in_err-put_all_replies
returns-in_err-put_all_replies g c =
    let part = c.in_err-put_all_replies.ensures.part in
    writes_part g.W.Write.contents _ _ c.clear.new.self _ c.from_residual.result c.in_err-put_all_replies.field-0.0 c.clear.ensures c.from_residual.ensures.1 part.0 part.1

pub returns : goal.returns
returns g c =
    let wrote = c.write_last.ensures in let bytes = c.bytes.ensures in
    writes_last g.W.Write.contents _ _ _ _ _ _ c.clear.ensures c.write_last.result c.in_ok-put_all_replies.ensures.whole (rw bytes at wrote.whole) (rw bytes at wrote.part)
