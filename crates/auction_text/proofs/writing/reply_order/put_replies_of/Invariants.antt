use Rattle.std.proofs.Common.{◌≤◌, ◌++◌, drop, length}
use Rattle.phase_laws.specs.Order.{part}
use Rattle.worker_journals.specs.Journals.{entry_worker}
use Rattle.auction_text.proofs.{OwnTurns.{AreOf, HasLast}, PartLemmas.{entry_order}}
use Rattle.auction_text.proofs.{PutLemmas.{IsTold}, SortLemmas.{IsUp}}
use Rattle.auction_text.specs.{Order.{comes_before, in_order, sorted}, Replies.{lines}}
use Rattle.auction_text.specs.inner.{Putting.{line_after}, Turns.{in_turn}}
use Rattle.auction_text.proofs.writing.reply_order.put_replies_of.Given as goal

-- the lines so far, and those that are left: of the late entries, in order, and of the entries in turn
abbrev pub invariant-loop-entry : goal.invariant-loop-entry
invariant-loop-entry g l = record {
  within : l.told ≤ length l.delayed;
  up : IsUp comes_before entry_order (drop l.told l.delayed);
  own : AreOf l.worker l.entry-iterator;
  turn : HasLast l.worker l.next (λ last.
      IsTold (g.W.Write.contents l.initial.writer) l.initial.block (g.W.Write.contents l.writer) l.block
      (lines (line_after l.gone) (sorted comes_before (in_turn comes_before last l.entry-iterator ++ drop l.told l.delayed)))
      (lines (line_after l.gone) (in_order (part entry_worker l.worker l.history.entries))));
}
