use Rattle.std.{proofs.Common.{◌<◌}, specs.List.{AllByRecursion}}
use Rattle.split_engine.specs.Serial.{IsWithin}
use Rattle.split_engine.proofs.scripts.is_within.Given as goal

-- the keys are all of the table just if those are that are left
abbrev pub invariant-loop-key : goal.invariant-loop-key
invariant-loop-key g l = record {
  enough : AllByRecursion (λ key. key < l.records) l.key-iterator → IsWithin g.A.Application.rules l.records l.request;
  needed : IsWithin g.A.Application.rules l.records l.request → AllByRecursion (λ key. key < l.records) l.key-iterator;
}
