use Rattle.std.{proofs.Common.{◌≡◌, ◌≤◌, ◌<◌, ◌-◌, true, length}, specs.List.{list_all}}
use Rattle.record_reading.proofs.{DigitLemmas.{span}, PlainFieldLemmas.{inside}}
use Rattle.record_reading.proofs.plain_fields.field_end.Given as goal

abbrev pub invariant-loop-byte : goal.invariant-loop-byte
invariant-loop-byte l = record { reaches : l.from ≤ l.at; within : l.at < length l.text; so_far : list_all inside (span l.text l.from l.at) ≡ true }

abbrev pub decreases-loop-byte : goal.decreases-loop-byte
decreases-loop-byte l = length l.text - l.at
