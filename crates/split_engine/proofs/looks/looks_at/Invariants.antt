use Rattle.std.{proofs.Common.{◌≡◌, ◌++◌, ◌+◌, ◌≤◌, ◌<◌, length}, specs.List.{AllByRecursion}}
use Rattle.split_engine.specs.{Serial.{looks_at}, declared.few.TheConstants.{MOST_KEYS}}
use Rattle.split_engine.proofs.looks.looks_at.Given as goal

-- what is seen so far, and what is seen at the keys that are left
abbrev pub invariant-loop-key : goal.invariant-loop-key
invariant-loop-key g l = record {
  seen : l.looks ++ looks_at g.A.Application.rules l.table l.key-iterator ≡ looks_at g.A.Application.rules l.table l.keys;
  few : length l.looks + length l.key-iterator ≤ MOST_KEYS;
  within : AllByRecursion (λ key. key < length l.table) l.key-iterator;
}
