use Rattle.std.proofs.Common.{arith, [], length, refl, subst}
use Rattle.byte_texts.specs.Writing.{WritesText}
use Rattle.auction_text.proofs.{PartLemmas.{all_below}, PutLemmas.{writes_last, writes_part}}
use Rattle.auction_text.proofs.WorkerReplies.{texts_are_replies}
use Rattle.auction_text.proofs.writing.output.write_replies_by_threads.Goals as goal

pub returns-in_err-write_parts : goal.returns-in_err-write_parts
returns-in_err-write_parts g c =
    let es = c.args.history.now.entries in let texts = c.in-Ok.texts.items in
    let workers = all_below c.last_worker.result (length texts) es (omega (arith, c.in-Ok.ensures.count)) c.last_worker.ensures in
    let part = rw c.as_slice.ensures.value at c.in_err-write_parts.ensures.part in
    subst (λ text. WritesText g.W.Write.contents c.args.writer.now c.write_parts.new.writer text c.from_residual.result) (texts_are_replies es texts c.in-Ok.ensures.each workers)
    (writes_part g.W.Write.contents c.args.writer.now c.write_parts.new.writer [] _ c.from_residual.result c.in_err-write_parts.field-0.0 refl c.from_residual.ensures.1 part.0 part.1)

pub returns : goal.returns
returns g c =
    let es = c.args.history.now.entries in let texts = c.in-Ok.texts.items in
    let workers = all_below c.last_worker.result (length texts) es (omega (arith, c.in-Ok.ensures.count)) c.last_worker.ensures in
    subst (λ text. WritesText g.W.Write.contents c.args.writer.now c.flush.new.writer text c.flush.result) (texts_are_replies es texts c.in-Ok.ensures.each workers)
    (writes_last g.W.Write.contents c.args.writer.now c.write_parts.new.writer c.flush.new.writer [] [] _ refl c.flush.result (rw c.as_slice.ensures.value at c.in_ok-write_parts.ensures.whole) c.flush.ensures.kept c.flush.ensures.fault)
