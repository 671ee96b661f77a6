use Rattle.std.proofs.Common.{take}
use Rattle.split_engine.specs.{Serving.{lists}, inner.Phases.{AllFinished}}
use Rattle.split_engine.proofs.runs.is_finished.Given as goal

abbrev pub invariant-loop-worker : goal.invariant-loop-worker
invariant-loop-worker g l = AllFinished (take l.worker (lists l.scripts)) (take l.worker l.cursors)
