use Rattle.std.proofs.Common.{◌≡◌, ◌<◌, ◌+◌, ◌++◌, length, take, drop}
use Rattle.record_reading.proofs.plain_fields.begins.Given as goal

abbrev pub invariant-loop-byte : goal.invariant-loop-byte
invariant-loop-byte l = record {
  at_place : l.place ≡ l.at + l.byte-index;
  within : l.place < length l.text;
  same : drop l.at l.text ≡ take l.byte-index l.word ++ drop l.place l.text;
}
