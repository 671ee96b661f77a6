use Rattle.std.proofs.Common.{refl}
use Rattle.log_file.proofs.faults.LogFileFault.at.Goals as goal

pub returns-in-Ok : goal.returns-in-Ok
returns-in-Ok g c = (c.in-Ok.ensures.ok, refl)
