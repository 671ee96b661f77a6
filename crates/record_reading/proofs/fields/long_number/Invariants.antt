use Rattle.std.{proofs.Common.{◌≡◌, true, take}, specs.{Char.{is_ascii_digit}, List.{list_all}}}
use Rattle.std.specs.Str.Parse.{digits_value}
use Rattle.record_reading.proofs.fields.long_number.Given as goal

abbrev pub invariant-loop-byte : goal.invariant-loop-byte
invariant-loop-byte l = record {
  digits : list_all is_ascii_digit (take l.byte-index l.bytes) ≡ true;
  value : l.value ≡ digits_value 10 (take l.byte-index l.bytes);
}
