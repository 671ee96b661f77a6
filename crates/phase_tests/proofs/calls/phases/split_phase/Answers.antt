use Rattle.std.proofs.Common.{subst, arith}
use Rattle.phase_floor.specs.Closings.{AreReceiptsOf}
use Rattle.phase_tests.proofs.calls.phases.split_phase.Goals as goal

pub perform_each-requires : goal.perform_each-requires
perform_each-requires g c =
    let begun = c.in_ok-floor in
    (subst (AreReceiptsOf begun.floor) c.only-permit.ensures begun.ensures.receipts).1 0 (omega (arith, begun.ensures.workers))
