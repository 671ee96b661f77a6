use Rattle.std.proofs.Common.{length, ap, arith}
use Rattle.state_tests.proofs.ReceiptLemmas.{none_given, next_is, one_more_given}
use Rattle.state_tests.proofs.phases.all_receipts.Goals as goal

pub loop-permit-init : goal.loop-permit-init
loop-permit-init g c =
    let permits = c.into_iter-permits.ensures in let room = c.room_for-receipts.ensures in
    none_given (omega (arith, c.room_for-receipts.result.ok.0, ap length room.empty)) c.requires permits.rest (omega (arith, permits.len, c.args.permits.ok.0))
    (omega (arith, room.room, c.len.ensures, c.args.permits.ok.0))

pub receipt-requires : goal.receipt-requires
receipt-requires g c = next_is c.loop-permit.invariant c.in-Some.ensures.cases.0 (omega (arith, c.in-Some.ensures.cases.1)) c.len-worker.ensures

pub push_reserved-requires : goal.push_reserved-requires
push_reserved-requires g c = omega (arith, c.in-Some.ensures.cases.1, c.loop-permit.invariant.workers, c.loop-permit.invariant.room)

pub loop-permit-preserved : goal.loop-permit-preserved
loop-permit-preserved g c =
    let step = c.in-Some.ensures.cases in let push = c.push_reserved.ensures in
    one_more_given c.loop-permit.invariant (omega (arith, c.loop-permit.receipts.ok.0)) step.0 (omega (arith, step.1)) c.len-worker.ensures c.receipt.ensures
    push.items (omega (arith, push.len)) (omega (arith, push.capacity))

pub returns : goal.returns
returns g c =
    let was = c.loop-permit.invariant in
    let none = c.in_default.ensures.cases.0 in (
      omega (arith, was.workers, none, c.loop-permit.receipts.ok.0),
      λ w low. was.first w (omega (arith, low, was.workers, none)),
    )
