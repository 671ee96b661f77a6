use Rattle.std.proofs.Common.{[], false, ap, sym, ◌∙◌, arith, below_more, slice_get}
use Rattle.std.specs.Prelude.{unwrap_or}
use Rattle.application_check.proofs.MarkRows.{row_is, row_low}
use Rattle.application_check.proofs.marks.unmarked.Goals as goal

-- the row of the worker has no request that is not marked
pub loop-worker-preserved : goal.loop-worker-preserved
loop-worker-preserved c w lt i =
    below_more _ _ c.loop-worker.invariant
    (λ j at. c.in_default.ensures j
    (ap (λ row. slice_get row j) c.deref.ensures.value
    ∙ ap (λ row. slice_get (unwrap_or row []) j) (sym (row_is c.args.marks.now c.loop-worker.worker c.index-marks-worker.result c.loop-worker-test.true c.index-marks-worker.is)) ∙ at))
    w lt i

pub returns : goal.returns
returns c w i at = c.loop-worker.invariant w (omega (arith, row_low c.args.marks.now w i false at, c.loop-worker-test.false)) i at
