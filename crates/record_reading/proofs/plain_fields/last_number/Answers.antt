use Rattle.record_reading.proofs.PlainFieldLemmas.{number_to_feed}
use Rattle.record_reading.proofs.plain_fields.last_number.Goals as goal

pub returns-in-Some : goal.returns-in-Some
returns-in-Some c = number_to_feed c.args.text.now c.args.from 64 c.in-Some.read.0 c.in-Some.read.1 c.in-Some.ensures
