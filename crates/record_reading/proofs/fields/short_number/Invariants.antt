use Rattle.std.{proofs.Common.{◌≡◌, ◌<◌, ◌^◌, true, take}, specs.Char.{is_ascii_digit}}
use Rattle.std.specs.{List.{list_all}, Str.Parse.{digits_value}}
use Rattle.record_reading.proofs.fields.short_number.Given as goal

abbrev pub invariant-loop-byte : goal.invariant-loop-byte
invariant-loop-byte l = record {
  digits : list_all is_ascii_digit (take l.byte-index l.bytes) ≡ true;
  value : l.value ≡ digits_value 10 (take l.byte-index l.bytes);
  bound : l.value < 10 ^ l.byte-index;
}
