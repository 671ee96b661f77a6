use Rattle.std.proofs.Common.{rules}
use Rattle.phase_transactions.proofs.worker.Worker.home.Goals as goal

pub returns-in-None-clause-at : goal.returns-in-None-clause-at
returns-in-None-clause-at g c = search rules
