use Rattle.std.{proofs.Common.{take}, specs.List.{AllByRecursion}}
use Rattle.split_engine.specs.{Serial.{IsWithin}, Serving.{lists}}
use Rattle.split_engine.proofs.scripts.check_scripts.Given as goal

abbrev pub invariant-loop-worker : goal.invariant-loop-worker
invariant-loop-worker g l = AllByRecursion (AllByRecursion (IsWithin g.A.Application.rules l.records)) (take l.worker (lists l.scripts))
