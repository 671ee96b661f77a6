use Rattle.std.proofs.{Common.{length, ap, ◌∙◌, get_or}, Math.ListN.{length-set}}
use Rattle.item_shards.proofs.OpeningLemmas.{counted_next, uncounted_next}
use Rattle.item_shards.proofs.openings.asked_by_each.Goals.{then-opened-lt-MOST_WORKERS, else-opened-lt-MOST_WORKERS}
use Rattle.item_shards.proofs.openings.asked_by_each.Goals as goal

pub loop-opened-preserved : goal.loop-opened-preserved
loop-opened-preserved c =
    let all = c.args.rows.now in let i = c.loop-opened.opened-index in
    let opened = c.opened-item.result in let counts = c.loop-opened.counts in
    let before = c.loop-opened.invariant in
    elim c.if-opened-lt-MOST_WORKERS.branch [
      | then-opened-lt-MOST_WORKERS w ↦ record {
        sixteen = ap length w.counts-is ∙ length-set counts opened.worker _ ∙ before.sixteen;
        counted = λ worker below. ap (λ list. get_or list worker 0) w.counts-is
            ∙ counted_next all i opened c.loop-opened-test.true c.opened-item.is counts before.counted before.sixteen w.if-opened-lt-MOST_WORKERS.true worker below;
      }
      | else-opened-lt-MOST_WORKERS w ↦ record {
        sixteen = ap length w.counts-is ∙ before.sixteen;
        counted = λ worker below. ap (λ list. get_or list worker 0) w.counts-is
            ∙ uncounted_next all i opened c.loop-opened-test.true c.opened-item.is counts before.counted w.if-opened-lt-MOST_WORKERS.false worker below;
      }
    ]
