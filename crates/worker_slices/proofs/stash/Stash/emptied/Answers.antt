use Rattle.std.proofs.Common.{arith}
use Rattle.worker_slices.proofs.stash.Stash.emptied.Goals as goal

pub invariant_of-result : goal.invariant_of-result
invariant_of-result c = (omega arith, omega arith)
