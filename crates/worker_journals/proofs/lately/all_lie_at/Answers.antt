use Rattle.std.proofs.Common.{◌≡◌, ◌<◌, ◌≤◌, ◌+◌, ◌∙◌, arith, length, rules, sym, true}
use Rattle.worker_journals.proofs.KeptLemmas.{one_alike}
use Rattle.worker_journals.proofs.lately.all_lie_at.Goals as goal

pub loop-place-preserved : goal.loop-place-preserved
loop-place-preserved g c =
    let room : c.args.start + length c.args.shown.now ≤ length c.args.list.now = omega (arith, c.if-start-list.false, c.if-list-start.false, c.len-count.ensures.length) in
    let within : c.loop-place.place < length c.args.shown.now = omega (arith, c.loop-place-test.true, c.len-count.ensures.length) in
    let passed : c.is_same.result ≡ true = search rules in
    one_alike c.args.list.now c.args.shown.now c.args.start c.loop-place.place c.index-list-start.result c.unwrap.result room within
    c.index-list-start.is (sym c.get.ensures ∙ c.unwrap.ensures) (c.is_same.ensures passed) c.loop-place.invariant
