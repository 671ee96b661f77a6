use Rattle.std.proofs.Common.{◌≤◌, ◌<◌, ◌+◌, ◌-◌, length}
use Rattle.record_reading.proofs.DigitLemmas.{ReadTo}
use Rattle.record_reading.proofs.plain_fields.number_to.Given as goal

abbrev pub invariant-loop-digit : goal.invariant-loop-digit
invariant-loop-digit l = record {
  some : 1 ≤ l.count;
  within : l.from + l.count < length l.text;
  so_far : ReadTo l.text l.from (l.from + l.count) l.value;
}

abbrev pub decreases-loop-digit : goal.decreases-loop-digit
decreases-loop-digit l = length l.text - (l.from + l.count)
