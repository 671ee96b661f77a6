use Rattle.phase_floor.specs.Closings.{IsReceipt}
use Rattle.state_tests.proofs.phases.receipt.Given as goal

abbrev pub invariant-loop-request : goal.invariant-loop-request
invariant-loop-request g l = IsReceipt l.floor l.worker l.permit
