use Rattle.std.proofs.Common.{◌≡◌, [], replicate, vec_len}
use Rattle.record_reading.proofs.inputs.CompactInput.with_room.Given as goal

abbrev pub invariant-loop : goal.invariant-loop
invariant-loop l = record {
  empty : l.scripts.items ≡ replicate l.counter [];
  count : vec_len l.scripts ≡ l.counter;
}
