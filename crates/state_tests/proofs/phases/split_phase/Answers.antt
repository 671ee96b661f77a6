use Rattle.phase_floor.proofs.Receipts.{begun_receipts}
use Rattle.state_tests.proofs.phases.split_phase.Goals as goal

pub perform_begun-requires : goal.perform_begun-requires
perform_begun-requires g c = begun_receipts c.in-Ok.begun.0 _ _ c.in-Ok.begun.1.items c.in-Ok.ensures.begun.opens.permits
