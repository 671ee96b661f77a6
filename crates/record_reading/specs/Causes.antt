-- What is wrong with a record, in words.
use Rattle.std.specs.Prelude.{ℕ, List, codes}
use Rattle.record_reading.specs.declared.inputs.Cause.{Cause}
use Rattle.record_reading.specs.declared.inputs.Cause.TheVariants as cause

abbrev pub cause_text : Cause → List ℕ
cause_text cause.Number = codes "not a number"
cause_text cause.Kind = codes "unknown kind"
cause_text cause.Late = codes "row after a request"
cause_text cause.Fields = codes "wrong number of fields"
cause_text cause.Item = codes "not an item id"
cause_text cause.Name = codes "not a name"
cause_text cause.Quantity = codes "not a quantity"
cause_text cause.Stars = codes "not stars"
cause_text cause.Long = codes "too long"
