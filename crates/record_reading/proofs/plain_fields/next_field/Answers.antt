use Rattle.std.proofs.lemmas.Option.{IfSome_then}
use Rattle.record_reading.proofs.QuotedFieldLemmas.{next_of_plain, next_of_quoted}
use Rattle.record_reading.proofs.plain_fields.next_field.Goals as goal

pub returns-in-Some : goal.returns-in-Some
returns-in-Some c = next_of_quoted c.args.text.now c.args.from c.in-Some.read.0.now c.in-Some.read.1 c.in-Some.ensures

pub returns-in-None : goal.returns-in-None
returns-in-None c =
    IfSome_then c.field_to_comma.result c.field_to_comma.ensures (λ p field. next_of_plain c.args.text.now c.args.from p.0.now p.1 field.0 field.1)
