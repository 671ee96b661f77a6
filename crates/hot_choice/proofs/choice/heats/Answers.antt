use Rattle.std.proofs.Common.{◌≡◌, ◌+◌, true, false, [], take, sym, subst}
use Rattle.std.proofs.lemmas.{Bool.{le-leb, lt-leb}, List.{take_all}}
use Rattle.std.specs.Prelude.{nat_le, slice_index}
use Rattle.hot_choice.proofs.HeatLemmas.{HasHeatsOf, may_be_hot, no_heats, run_counted, run_passed_over, hot_ones_are_counted}
use Rattle.hot_choice.proofs.RunLemmas.{runs_taken}
use Rattle.hot_choice.proofs.choice.heats.Goals.{then-counts-bucket_of+in_ok-count, else-counts-bucket_of}
use Rattle.hot_choice.specs.inner.Runs.{objects_of}
use Rattle.hot_choice.proofs.choice.heats.Goals as goal

pub loop-run-init : goal.loop-run-init
loop-run-init c =
    let may = may_be_hot c.in_ok-counts.counts c.args.threshold in
    subst (HasHeatsOf may []) (sym c.new-heats.ensures.empty) (no_heats may)

pub loop-run-preserved : goal.loop-run-preserved
loop-run-preserved c =
    let runs = c.args.runs.now in let i = c.loop-run.run-index in
    let counts = c.in_ok-counts.counts in let may = may_be_hot counts c.args.threshold in
    let before = c.loop-run.heats.entries in
    elim c.if-counts-bucket_of.branch [
      | then-counts-bucket_of+in_ok-count w ↦
          let warm = le-leb c.args.threshold (slice_index counts c.bucket_of.result) w.if-counts-bucket_of.true in
          subst (λ heats. HasHeatsOf may (objects_of (take (i + 1) runs)) heats.entries) (sym w.heats-is)
          (subst (λ os. HasHeatsOf may os w.count.new.heats.entries) (sym (runs_taken runs i _ c.loop-run-test.true))
          (run_counted may (objects_of (take i runs)) _ before w.count.new.heats.entries
          (subst (λ bucket. nat_le c.args.threshold (slice_index counts bucket) ≡ true) c.bucket_of.ensures.bucket warm)
          c.loop-run.invariant w.in_ok-count.ensures.once w.in_ok-count.ensures.counted.0))
      | else-counts-bucket_of w ↦
          let cold = lt-leb c.args.threshold (slice_index counts c.bucket_of.result) w.if-counts-bucket_of.false in
          subst (λ heats. HasHeatsOf may (objects_of (take (i + 1) runs)) heats.entries) (sym w.heats-is)
          (subst (λ os. HasHeatsOf may os before) (sym (runs_taken runs i _ c.loop-run-test.true))
          (run_passed_over may (objects_of (take i runs)) _ before
          (subst (λ bucket. nat_le c.args.threshold (slice_index counts bucket) ≡ false) c.bucket_of.ensures.bucket cold) c.loop-run.invariant))
    ]

pub returns : goal.returns
returns c =
    let runs = c.args.runs.now in let counts = c.in_ok-counts.counts in
    hot_ones_are_counted (objects_of runs) c.args.threshold counts c.loop-run.heats.entries c.in_ok-counts.ensures
    (subst (λ rs. HasHeatsOf (may_be_hot counts c.args.threshold) (objects_of rs) c.loop-run.heats.entries) (take_all c.loop-run.run-index runs c.loop-run-test.false) c.loop-run.invariant)
