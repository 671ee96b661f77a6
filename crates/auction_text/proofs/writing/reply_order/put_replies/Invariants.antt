use Rattle.std.proofs.Common.{drop}
use Rattle.auction_text.{proofs.PutLemmas.{IsTold}, specs.Replies.{lines}}
use Rattle.auction_text.specs.inner.Putting.{line_after}
use Rattle.auction_text.proofs.writing.reply_order.put_replies.Given as goal

abbrev pub invariant-loop-entry : goal.invariant-loop-entry
invariant-loop-entry g l = IsTold (g.W.Write.contents l.initial.writer) l.initial.block (g.W.Write.contents l.writer) l.block
    (lines (line_after l.gone) (drop l.entry-index l.entries)) (lines (line_after l.gone) l.entries)
