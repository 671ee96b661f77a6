use Rattle.std.proofs.Common.{◌≡◌, ◌<◌, ◌+◌, arith, get_or, length}
use Rattle.record_reading.proofs.DigitLemmas.{more_after, split_at}
use Rattle.record_reading.proofs.PlainFieldLemmas.{last_to_feed, last_to_return}
use Rattle.record_reading.proofs.plain_fields.last_field.Goals as goal

pub returns-then-text-at-eq10 : goal.returns-then-text-at-eq10
returns-then-text-at-eq10 c =
    let text = c.args.text.now in let from = c.args.from in let at = c.field_end-at.result in
    let end = c.field_end-at.ensures in let feed : get_or text at 0 ≡ 10 = omega arith in
    (last_to_feed text from (at + 1) _ (rw feed at (split_at text from at end.after end.within)), end.plain)

pub returns : goal.returns
returns c =
    let text = c.args.text.now in let from = c.args.from in let at = c.field_end-at.result in
    let end = c.field_end-at.ensures in let back : get_or text at 0 ≡ 13 = omega arith in
    let feed : get_or text (at + 1) 0 ≡ 10 = omega arith in
    let inside : at + 1 < length text = more_after text at c.requires.ends end.within (λ is. omega (arith, back, is)) in
    let two : at + 1 + 1 ≡ at + 2 = omega arith in
    (rw two at (last_to_return text from (at + 1) _ (rw back at (split_at text from at end.after end.within)) inside feed), end.plain)
