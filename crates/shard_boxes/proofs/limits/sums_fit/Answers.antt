use Rattle.shard_boxes.proofs.LimitLemmas.{two_fit}
use Rattle.shard_boxes.proofs.limits.sums_fit.Goals as goal

pub returns : goal.returns
returns c = two_fit
