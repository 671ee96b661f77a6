use Rattle.std.proofs.{Common.{◌+◌, ap, drop, refl}, lemmas.List.{drop_all}}
use Rattle.auction_text.proofs.PutLemmas.{put_failed, told_all, told_more, told_none, told_part}
use Rattle.auction_text.{proofs.TurnLemmas.{drop_next}, specs.Replies.{lines}}
use Rattle.auction_text.specs.inner.Putting.{line_after}
use Rattle.auction_text.proofs.writing.reply_order.put_replies.Goals as goal

pub loop-entry-init : goal.loop-entry-init
loop-entry-init g c = told_none _ _ _ _ refl

pub loop-entry-preserved : goal.loop-entry-preserved
loop-entry-preserved g c =
    let at = drop_next c.args.entries.now c.loop-entry.entry-index c.entry-item.result c.loop-entry-test.true c.entry-item.is in
    told_more _ _ _ _ _ _ _ (line_after c.args.gone c.entry-item.result) (lines (line_after c.args.gone) (drop (c.loop-entry.entry-index + 1) c.args.entries.now)) _ c.loop-entry.invariant (ap (lines (line_after c.args.gone)) at)
    c.in_ok-put_reply.ensures.whole

pub returns-in_err-put_reply : goal.returns-in_err-put_reply
returns-in_err-put_reply g c =
    let at = drop_next c.args.entries.now c.loop-entry.entry-index c.entry-item.result c.loop-entry-test.true c.entry-item.is in
    let part = c.in_err-put_reply.ensures.part in
    put_failed g.W.Write.contents _ _ _ _ _ c.from_residual.result c.in_err-put_reply.field-0.0 c.from_residual.ensures.1 part.0
    (told_part _ _ _ _ _ c.put_reply.new.block _ (line_after c.args.gone c.entry-item.result) (lines (line_after c.args.gone) (drop (c.loop-entry.entry-index + 1) c.args.entries.now)) _ c.loop-entry.invariant
    (ap (lines (line_after c.args.gone)) at) part.1)

pub returns : goal.returns
returns g c = record {
  whole = told_all _ _ _ _ _ _ c.loop-entry.invariant (ap (lines (line_after c.args.gone)) (drop_all c.loop-entry.entry-index c.args.entries.now c.loop-entry-test.false));
  part = tt;
}
