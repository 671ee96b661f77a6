use Rattle.std.proofs.Common.{refl}
use Rattle.log_opening.proofs.tails.is_short.Goals as goal

pub returns : goal.returns
returns c = refl
