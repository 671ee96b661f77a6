use Rattle.std.proofs.Common.{◌≡◌, ◌∙◌, rules, sym}
use Rattle.record_reading.proofs.PlainLineLemmas.{end_of_one, end_of_two}
use Rattle.record_reading.proofs.plain_lines.put_up.Goals as goal

pub returns-in-Some : goal.returns-in-Some
returns-in-Some c =
    let one : c.unwrap.result ≡ 1 = search rules in
    rw one (end_of_one c.args.text.now c.args.at c.in-Some.time c.in-Some.next c.in-Some.ensures)

pub returns : goal.returns
returns c =
    end_of_two c.args.text.now c.args.at c.in_ok-time.time c.in_ok-time.at_quantity c.in_ok-read_quantity.field-0 c.in_ok-field.field.now c.in_ok-field.next
    c.in_ok-time.ensures c.in_ok-field.ensures.0 c.in_ok-field.ensures.1 (sym c.read_quantity.ensures ∙ c.in_ok-read_quantity.was)
