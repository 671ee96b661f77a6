use Rattle.std.proofs.Common.{refl}
use Rattle.run_phases.proofs.faults.RunFaultFromFloorFault.from.Goals as goal

pub returns : goal.returns
returns c = refl
