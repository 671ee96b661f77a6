use Rattle.phase_floor.proofs.Receipts.{failed_first, performed_first}
use Rattle.phase_tests.proofs.calls.phases.perform_first.Goals as goal

pub returns-in-Ok : goal.returns-in-Ok
returns-in-Ok g c = performed_first g.N.PhaseName.initial c.args.floor.now 0 c.args.permit.now c.perform_stashed.new.self c.requires c.in-Ok.answer c.in-Ok.ensures.unchanged c.in-Ok.ensures.performed

pub returns-in-Err : goal.returns-in-Err
returns-in-Err g c = failed_first c.requires c.in-Err.ensures.failed
