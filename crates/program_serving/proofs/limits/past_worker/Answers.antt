use Rattle.std.proofs.Common.{Option, None, Some, IfNone, arith}
use Rattle.program_serving.proofs.limits.past_worker.Goals as goal

then_none : {X P Q : Type 0} (o : Option X) → (P → Q) → IfNone o P → IfNone o Q
then_none None so p = so p
then_none (Some x) so p = tt

pub returns-clause-none : goal.returns-clause-none
returns-clause-none c = then_none c.loop-worker.past
    (λ short within has w low. short within w (omega (arith, low, has, c.workers-worker-end.ensures.count, c.loop-worker-test.false))) c.loop-worker.invariant.none
