use Rattle.std.proofs.Common.{◌≡◌, arith, get_or, refl}
use Rattle.record_reading.proofs.DigitLemmas.{more_after}
use Rattle.record_reading.proofs.plain_lines.asked_at.Goals as goal

pub store_at-requires-clause-within : goal.store_at-requires-clause-within
store_at-requires-clause-within c =
    let plus : get_or c.args.text.now c.args.at 0 ≡ 43 = omega arith in
    more_after c.args.text.now c.args.at c.requires.ends c.requires.within (λ feed. omega (arith, feed, plus))

pub returns-then-text-at-eq43 : goal.returns-then-text-at-eq43
returns-then-text-at-eq43 c =
    let plus : get_or c.args.text.now c.args.at 0 ≡ 43 = omega arith in
    c.in_ok-request.ensures.adds c.args.at refl plus
