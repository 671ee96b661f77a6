use Rattle.log_opening.proofs.RecoveryLemmas.{opens_to}
use Rattle.log_opening.proofs.laws.a_prefix_opens.Goals as goal

pub returns : goal.returns
returns c = opens_to
