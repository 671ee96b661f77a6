use Rattle.std.proofs.Common.{vec_len, vec_capacity}
use Rattle.std.specs.Vec.Iter.{into_iter_items, into_iter_len}
use Rattle.state_tests.proofs.ReceiptLemmas.{AreInTurn}
use Rattle.state_tests.proofs.phases.all_receipts.Given as goal

abbrev pub invariant-loop-permit : goal.invariant-loop-permit
invariant-loop-permit g l = AreInTurn l.floor (vec_len l.receipts) (vec_capacity l.receipts) (into_iter_len l.permits) l.receipts.items (into_iter_items l.permits)

abbrev pub decreases-loop-permit : goal.decreases-loop-permit
decreases-loop-permit g l = into_iter_len l.permits
