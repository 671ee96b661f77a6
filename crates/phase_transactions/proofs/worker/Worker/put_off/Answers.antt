use Rattle.std.proofs.Common.{rules}
use Rattle.phase_transactions.proofs.worker.Worker.put_off.Goals as goal

pub returns : goal.returns
returns g c = search rules
