use Rattle.std.proofs.Common.{◌≡◌, ◌++◌, None}
use Rattle.phase_laws.specs.Order.{part}
use Rattle.worker_journals.specs.Journals.{entry_worker}
use Rattle.auction_text.{proofs.OwnTurns.{AreOf, HasLast}, specs.Order.{comes_before}}
use Rattle.auction_text.specs.inner.Turns.{late}
use Rattle.auction_text.proofs.writing.reply_order.late_as_committed.Given as goal

-- the late entries so far, and those of the entries that are left
abbrev pub invariant-loop-next : goal.invariant-loop-next
invariant-loop-next l = record {
  own : AreOf l.worker l.left;
  turn : HasLast l.worker l.next (λ last.
      l.entries.items ++ late comes_before last l.left ≡ late comes_before None (part entry_worker l.worker l.history.entries));
}
