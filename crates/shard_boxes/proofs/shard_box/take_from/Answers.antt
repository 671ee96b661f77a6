use Rattle.std.proofs.Common.{◌∙◌, refl, sym, subst}
use Rattle.crossbeam_queue.specs.Passes.{view}
use Rattle.shard_boxes.proofs.BoxSteps.{takes}
use Rattle.shard_boxes.specs.declared.shard_box.Knowledge.{Knowledge}
use Rattle.shard_boxes.specs.inner.Passing.{Speaks}
use Rattle.shard_boxes.specs.inner.Steps.{TakenBy}
use Rattle.shard_boxes.proofs.shard_box.take_from.Goals as goal

pub try_pop_as-requires-clause-rule : goal.try_pop_as-requires-clause-rule
try_pop_as-requires-clause-rule g c = takes _ _ (subst (λ (v : Knowledge). Speaks v) (sym c.loop.invariant.1) c.requires.speaks)

pub try_pop_as-requires-clause-queue : goal.try_pop_as-requires-clause-queue
try_pop_as-requires-clause-queue g c =
    let same = c.loop.invariant.0 in
    (same.0 ∙ c.requires.queue.0, same.2 ∙ c.requires.queue.1)

pub loop-init : goal.loop-init
loop-init g c = ((refl, refl, refl), refl)

pub loop-preserved : goal.loop-preserved
loop-preserved g c =
    let missed = c.in_default.ensures in
    let before = c.loop.invariant in
    ((missed.queue.0 ∙ before.0.0, missed.queue.1 ∙ before.0.1, missed.queue.2 ∙ before.0.2), missed.rule ∙ before.1)

pub returns-in-Some-try_pop_as-clause-queue : goal.returns-in-Some-try_pop_as-clause-queue
returns-in-Some-try_pop_as-clause-queue g c =
    let before = c.loop.invariant.0 in
    let queue = c.in-Some-try_pop_as.ensures.queue in
    (queue.0 ∙ before.0, queue.1 ∙ before.1, queue.2 ∙ before.2)

pub returns-in-Some-try_pop_as-clause-taken : goal.returns-in-Some-try_pop_as-clause-taken
returns-in-Some-try_pop_as-clause-taken g c =
    subst (λ (v : Knowledge). TakenBy v c.in-Some-try_pop_as.shard (view c.try_pop_as.new.pass)) c.loop.invariant.1 c.in-Some-try_pop_as.ensures.rule
