use Rattle.std.proofs.Common.{◌≡◌, arith, get_or}
use Rattle.record_reading.proofs.{DigitLemmas.{more_behind}, PlainFieldLemmas.{number_to_return}}
use Rattle.record_reading.proofs.plain_fields.number_to_return.Goals as goal

pub returns : goal.returns
returns c =
    let text = c.args.text.now in let read = c.in_ok-value.ensures in
    let feed : get_or text c.in_ok-value.at 0 ≡ 10 = omega arith in
    number_to_return text c.args.from 64 c.in_ok-value.value c.in_ok-value.at read (more_behind text c.args.from 13 c.in_ok-value.at read.field c.requires.ends read.there (λ is. omega (arith, is))) feed
