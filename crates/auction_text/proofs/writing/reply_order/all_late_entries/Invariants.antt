use Rattle.std.proofs.Common.{◌≡◌, length}
use Rattle.auction_text.specs.inner.Workers.{AreEach, late_of}
use Rattle.auction_text.proofs.writing.reply_order.all_late_entries.Given as goal

abbrev pub invariant-loop-worker : goal.invariant-loop-worker
invariant-loop-worker l = record {
  late : AreEach (late_of l.history.entries) l.lists.items;
  len : length l.lists.items ≡ l.worker;
}
