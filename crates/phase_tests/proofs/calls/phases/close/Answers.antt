use Rattle.std.proofs.Common.{sym, subst}
use Rattle.phase_floor.specs.Closings.{IsReceipt}
use Rattle.phase_tests.proofs.calls.ReceiptLemmas.{only_receipt}
use Rattle.phase_tests.proofs.calls.phases.close.Goals as goal

pub close-requires : goal.close-requires
close-requires g c = only_receipt c.requires.workers c.in_ok-receipts.ensures.items (subst (IsReceipt c.args.floor 0) (sym c.finish.ensures) c.requires.permit)
