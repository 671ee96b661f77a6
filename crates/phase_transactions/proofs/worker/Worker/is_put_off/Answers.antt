use Rattle.std.proofs.Common.{rules}
use Rattle.phase_transactions.proofs.worker.Worker.is_put_off.Goals as goal

pub returns-in-BuyNow : goal.returns-in-BuyNow
returns-in-BuyNow g c = search rules
