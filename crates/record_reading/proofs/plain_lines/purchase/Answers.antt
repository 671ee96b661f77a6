use Rattle.std.proofs.Common.{◌∙◌, sym}
use Rattle.record_reading.proofs.PlainLineLemmas.{buy_in_place}
use Rattle.record_reading.proofs.plain_lines.purchase.Goals as goal

pub returns : goal.returns
returns c =
    buy_in_place c.args.text.now c.args.at c.in_ok-buyer.buyer c.in_ok-buyer.at_item c.in_ok-item.item c.in_ok-item.at_quantity c.in_ok-field.field.now _ c.in_ok-field.at_time
    c.in_ok-time.time c.in_ok-time.next c.in_ok-buyer.ensures c.in_ok-item.ensures c.in_ok-field.ensures.0 c.in_ok-field.ensures.1
    (sym c.read_quantity.ensures ∙ c.in_ok-quantity.was) c.in_ok-time.ensures
