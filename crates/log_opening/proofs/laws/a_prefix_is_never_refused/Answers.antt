use Rattle.log_opening.proofs.NeverLemmas.{never}
use Rattle.log_opening.proofs.laws.a_prefix_is_never_refused.Goals as goal

pub returns : goal.returns
returns c = never
