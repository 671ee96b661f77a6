use Rattle.std.{proofs.Common.{take}, specs.List.{AllByRecursion}}
use Rattle.split_engine.specs.Serial.{IsWithin}
use Rattle.split_engine.proofs.scripts.without_key.Given as goal

abbrev pub invariant-loop-index : goal.invariant-loop-index
invariant-loop-index g l = AllByRecursion (IsWithin g.A.Application.rules l.records) (take l.index l.script)
