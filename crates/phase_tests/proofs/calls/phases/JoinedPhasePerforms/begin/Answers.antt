use Rattle.std.proofs.Common.{◌∷◌, []}
use Rattle.phase_floor.proofs.Receipts.{begun_receipts}
use Rattle.phase_tests.proofs.calls.phases.JoinedPhasePerforms.begin.Goals as goal

pub returns-in-Ok-clause-receipts : goal.returns-in-Ok-clause-receipts
returns-in-Ok-clause-receipts g c = begun_receipts c.in-Ok.begun.0 (8 ∷ []) c.args.stashes.items c.in-Ok.begun.1.items c.in-Ok.ensures.begun.opens.permits
