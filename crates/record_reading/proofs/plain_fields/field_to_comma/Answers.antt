use Rattle.std.proofs.Common.{arith, ◌≡◌, get_or}
use Rattle.record_reading.proofs.DigitLemmas.{split_at}
use Rattle.record_reading.proofs.plain_fields.field_to_comma.Goals as goal

pub returns : goal.returns
returns c =
    let text = c.args.text.now in let end = c.field_end-at.ensures in
    let stop : get_or text c.field_end-at.result 0 ≡ 44 = omega arith in
    (rw stop at (split_at text c.args.from c.field_end-at.result end.after end.within), end.plain)
