use Rattle.std.proofs.Common.{◌+◌, ◌∙◌, [], ap, get_or, length}
use Rattle.auction_text.proofs.MovedLemmas.{counted_all, counted_more, counted_none}
use Rattle.auction_text.specs.Moved.{BeforeView}
use Rattle.auction_text.proofs.writing.Before.with_scripts.Goals as goal

pub loop-worker-init : goal.loop-worker-init
loop-worker-init c = counted_none _ c.args.scripts.now

pub loop-worker-preserved : goal.loop-worker-preserved
loop-worker-preserved c =
    let lookup = c.in_ok-get.ensures.lookup in
    counted_more _ c.args.scripts.now c.loop-worker.requests c.loop-worker.worker c.in_ok-count.count c.in_ok-get.field-0.now c.len.result c.index-scripts-worker.result
    lookup.3.0 c.loop-worker-test.true lookup.1 c.index-scripts-worker.is c.len.ensures c.in_ok-count.ensures.1 c.loop-worker.invariant

pub returns-clause-requests : goal.returns-clause-requests
returns-clause-requests c = λ worker.
    counted_all _ c.args.scripts.now c.loop-worker.requests c.loop-worker.worker c.loop-worker-test.false c.loop-worker.invariant worker
    ∙ ap (λ (before : BeforeView). get_or before.requests worker 0 + length (get_or c.args.scripts.now worker [])) c.self.view_is
