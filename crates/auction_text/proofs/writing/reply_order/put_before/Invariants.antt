use Rattle.std.proofs.Common.{◌≡◌, ◌≤◌, ◌-◌, drop, length}
use Rattle.auction_text.{proofs.PutLemmas.{IsTold}, specs.{Order.{comes_before}, Replies.{lines}}}
use Rattle.auction_text.specs.inner.{Putting.{line_after}, Turns.{front, rest}}
use Rattle.auction_text.proofs.writing.reply_order.put_before.Given as goal

-- the lines so far, and those that are left
abbrev pub invariant-loop-next : goal.invariant-loop-next
invariant-loop-next g l = record {
  within : l.place ≤ length l.entries;
  left : rest comes_before l.entry (drop l.place l.entries) ≡ rest comes_before l.entry (drop l.from l.entries);
  told : IsTold (g.W.Write.contents l.initial.writer) l.initial.block (g.W.Write.contents l.writer) l.block
      (lines (line_after l.gone) (front comes_before l.entry (drop l.place l.entries))) (lines (line_after l.gone) (front comes_before l.entry (drop l.from l.entries)));
}

abbrev pub decreases-loop-next : goal.decreases-loop-next
decreases-loop-next g l = length l.entries - l.place
