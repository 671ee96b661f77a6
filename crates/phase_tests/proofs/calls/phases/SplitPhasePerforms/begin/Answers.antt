use Rattle.std.proofs.Common.{◌∷◌, [], map}
use Rattle.phase_floor.{proofs.Receipts.{begun_receipts}, specs.Begins.{empty_stash}}
use Rattle.phase_tests.proofs.calls.phases.SplitPhasePerforms.begin.Goals as goal

pub returns-in-Ok-clause-receipts : goal.returns-in-Ok-clause-receipts
returns-in-Ok-clause-receipts g c = begun_receipts c.in-Ok.begun.0 (8 ∷ []) (map empty_stash (8 ∷ [])) c.in-Ok.begun.1.items c.in-Ok.ensures.begun.opens.permits
