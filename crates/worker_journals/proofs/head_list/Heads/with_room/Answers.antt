use Rattle.std.proofs.Common.{ap, arith, length}
use Rattle.worker_journals.proofs.head_list.Heads.with_room.Goals as goal

pub invariant_of-result : goal.invariant_of-result
invariant_of-result c =
    let heads = c.in_ok-with_capacity in
    omega (arith, ap length c.in_ok-emptied.ensures.requests, heads.ensures.len, heads.field-0.ok.0)

pub returns-clause-room : goal.returns-clause-room
returns-clause-room c = omega (arith, c.in_ok-emptied.ensures.room, c.in_ok-with_capacity.ensures.capacity)
