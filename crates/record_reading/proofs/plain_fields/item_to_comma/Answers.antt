use Rattle.record_reading.proofs.PlainFieldLemmas.{item_of}
use Rattle.record_reading.proofs.plain_fields.item_to_comma.Goals as goal

pub returns : goal.returns
returns c =
    item_of c.args.text.now c.args.from 44 c.in_ok-worker.worker c.in_ok-worker.at c.in_ok-serial.serial c.in_ok-serial.next
    c.in_ok-worker.ensures c.in_ok-serial.ensures
