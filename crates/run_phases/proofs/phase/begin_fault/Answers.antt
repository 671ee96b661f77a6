use Rattle.std.proofs.Common.{refl}
use Rattle.run_phases.proofs.phase.begin_fault.Goals as goal

pub returns : goal.returns
returns c = refl
