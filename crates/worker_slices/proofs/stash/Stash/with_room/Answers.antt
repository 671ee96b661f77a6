use Rattle.std.proofs.Common.{arith}
use Rattle.worker_slices.proofs.stash.Stash.with_room.Goals as goal

pub invariant_of-result : goal.invariant_of-result
invariant_of-result c =
    let stored = c.in_ok-with_capacity.ensures in (
      omega arith,
      omega (arith, stored.len, stored.capacity),
    )
