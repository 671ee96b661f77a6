use Rattle.record_reading.proofs.NameLemmas.{name_of_bytes}
use Rattle.record_reading.proofs.fields.read_name.Goals as goal

pub returns : goal.returns
returns c = name_of_bytes c.args.field.now c.new.result c.new.ensures.variant c.new.ensures.value
