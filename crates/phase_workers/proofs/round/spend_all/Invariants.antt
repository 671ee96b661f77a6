use Rattle.std.specs.Vec.Iter.{into_iter_len}
use Rattle.phase_workers.proofs.round.spend_all.Given as goal

abbrev pub decreases-loop-permit : goal.decreases-loop-permit
decreases-loop-permit g l = into_iter_len l.permits
