use Rattle.phase_floor.specs.Closings.{IsReceipt}
use Rattle.phase_tests.proofs.calls.phases.perform_each.Given as goal

abbrev pub invariant-loop-index : goal.invariant-loop-index
invariant-loop-index g l = IsReceipt l.floor 0 l.permit
