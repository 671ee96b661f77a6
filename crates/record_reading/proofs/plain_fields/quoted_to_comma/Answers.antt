use Rattle.std.proofs.Common.{◌≡◌, ◌<◌, ◌+◌, arith, get_or, length}
use Rattle.record_reading.proofs.{DigitLemmas.{more_after}, QuotedFieldLemmas.{quoted_to}}
use Rattle.record_reading.proofs.plain_fields.quoted_to_comma.Goals as goal

pub quote_or_feed-at-requires-clause-within : goal.quote_or_feed-at-requires-clause-within
quote_or_feed-at-requires-clause-within c =
    let opens : get_or c.args.text.now c.args.from 0 ≡ 34 = omega arith in
    more_after c.args.text.now c.args.from c.requires.ends c.requires.within (λ feed. omega (arith, opens, feed))

pub returns : goal.returns
returns c =
    let text = c.args.text.now in let from = c.args.from in let at = c.quote_or_feed-at.result in
    let end = c.quote_or_feed-at.ensures in let opens : get_or text from 0 ≡ 34 = omega arith in
    let closes : get_or text at 0 ≡ 34 = omega arith in
    let comma : get_or text (at + 1) 0 ≡ 44 = omega arith in
    let inside : at + 1 < length text = more_after text at c.requires.ends end.within (λ feed. omega (arith, closes, feed)) in
    let two : at + 1 + 1 ≡ at + 2 = omega arith in
    rw two at (quoted_to text from at end.after inside opens closes comma end.unquoted)
