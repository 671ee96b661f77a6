use Rattle.std.proofs.Common.{arith, ◌≡◌, ◌≤◌, ◌-◌, ◌+◌, ◌<◌, get_or, length}
use Rattle.record_reading.proofs.DigitLemmas.{ReadTo, digit_of, more_after, number_of_more, number_of_one, read_first, read_more}
use Rattle.record_reading.proofs.plain_fields.number_to.Goals as goal

pub returns-then-text-from : goal.returns-then-text-from
returns-then-text-from c =
    let text = c.args.text.now in let from = c.args.from in let first = c.digit_value-first in
    let digit = digit_of (get_or text from 0) first.result first.ensures.from_zero first.ensures.below_zero c.if-first-gt9.false in
    let within : from + 1 < length text = more_after text from c.requires.ends c.requires.within (λ feed. omega (arith, feed, digit.1)) in
    let read : ReadTo text from (from + 1) first.result = rw digit.2 (read_first text from c.requires.within digit.0) in
    let stop : get_or text (from + 1) 0 ≡ c.args.stop = omega arith in
    let next : from + 2 ≡ from + 1 + 1 = omega arith in
    rw next (number_of_one text from (from + 1) first.result c.args.stop (omega arith) within read (omega arith) stop (omega arith))

pub loop-digit-init : goal.loop-digit-init
loop-digit-init c =
    let text = c.args.text.now in let from = c.args.from in let first = c.digit_value-first in
    let digit = digit_of (get_or text from 0) first.result first.ensures.from_zero first.ensures.below_zero c.if-first-gt9.false in
    record {
      some = omega arith;
      within = more_after text from c.requires.ends c.requires.within (λ feed. omega (arith, feed, digit.1));
      so_far = rw digit.2 (read_first text from c.requires.within digit.0);
    }

pub loop-digit-preserved : goal.loop-digit-preserved
loop-digit-preserved c =
    let text = c.args.text.now in let from = c.args.from in let at = from + c.loop-digit.count in
    let inv = c.loop-digit.invariant in let here = c.digit_value-digit in
    let digit = digit_of (get_or text at 0) here.result here.ensures.from_zero here.ensures.below_zero c.if-digit-gt9.false in
    let within : at + 1 < length text = more_after text at c.requires.ends inv.within (λ feed. omega (arith, feed, digit.1)) in
    let next : from + (c.loop-digit.count + 1) ≡ at + 1 = omega arith in record {
      some = omega arith;
      within = omega (arith, within);
      so_far = rw (next, digit.2) (read_more text from at c.loop-digit.value (omega arith) inv.within digit.0 inv.so_far);
    }

pub returns : goal.returns
returns c =
    let text = c.args.text.now in let from = c.args.from in let at = from + c.loop-digit.count in
    let inv = c.loop-digit.invariant in let stop : get_or text at 0 ≡ c.args.stop = omega arith in
    let few : at - from ≤ 19 = omega arith in
    number_of_more text from at c.loop-digit.value c.args.stop (omega arith) inv.within inv.so_far few stop (omega (arith, inv.some))
    (λ zero. omega (arith, zero, c.digit_value-first.ensures.from_zero, c.if-first-eq0.false))
