use Rattle.std.proofs.Common.{◌∙◌, arith, refl, ap}
use Rattle.std.proofs.lemmas.List.{get_or-replicate, length-set, take_all}
use Rattle.hot_choice.{proofs.HeatLemmas.{run_in_bucket}, specs.inner.Ranking.{in_bucket}}
use Rattle.hot_choice.specs.inner.Runs.{objects_of}
use Rattle.hot_choice.proofs.choice.count_by_bucket.Goals as goal

pub loop-run-init : goal.loop-run-init
loop-run-init c = record { long = refl; counted = λ bucket below. get_or-replicate 256 bucket 0 0 below }

pub loop-run-preserved : goal.loop-run-preserved
loop-run-preserved c =
    let so_far = c.loop-run.invariant in record {
      long = length-set c.loop-run.counts _ _ ∙ so_far.long;
      counted = run_in_bucket c.args.runs.now c.loop-run.run-index _ c.loop-run.counts c.bucket_of-bucket.result c.in_ok-sum.sum c.loop-run-test.true c.bucket_of-bucket.ensures.bucket
          (omega (arith, so_far.long, c.bucket_of-bucket.ensures.within)) c.in_ok-sum.ensures so_far.counted;
    }

pub returns : goal.returns
returns c = λ bucket below. c.loop-run.invariant.counted bucket below ∙ ap (λ rs. in_bucket (objects_of rs) bucket) (take_all c.loop-run.run-index c.args.runs.now c.loop-run-test.false)
