use Rattle.std.proofs.Common.{arith, ◌<◌, ◌∙◌, [], ap, length, set}
use Rattle.std.proofs.lemmas.List.Edits.{map_over_more}
use Rattle.program_serving.proofs.limits.clear.Goals as goal

pub loop-worker-preserved : goal.loop-worker-preserved
loop-worker-preserved c =
    let was = c.loop-worker.invariant in let w = c.loop-worker.worker in let items = c.loop-worker.scripts.items in let all = c.args.scripts.now.items in
    let below : w < length all = omega (arith, c.len-worker-end.ensures, c.args.scripts.now.ok.0, c.loop-worker-test.true) in
    (was.0, ap (λ t. set items w t) c.new.ensures ∙ map_over_more (λ script. []) all items w c.index_mut.result.now below was.1 c.index_mut.ensures.value)
