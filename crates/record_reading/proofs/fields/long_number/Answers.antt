use Rattle.std.proofs.Common.{arith, ◌≡◌, ◌<◌, ◌+◌, ◌*◌, ◌∙◌, true, slice_index_or, sym}
use Rattle.std.specs.Char.{is_ascii_digit}
use Rattle.record_reading.proofs.NumberLemmas.{digits_more, next_digit}
use Rattle.record_reading.proofs.fields.long_number.Goals as goal

pub returns-in_err-checked_mul : goal.returns-in_err-checked_mul
returns-in_err-checked_mul c =
    let digit : is_ascii_digit (slice_index_or c.args.bytes.now c.loop-byte.byte-index 0) ≡ true = sym c.is_ascii_digit.ensures.value ∙ c.if-not-is_ascii_digit.false in
    let next = next_digit c.args.bytes.now c.loop-byte.byte-index c.loop-byte.value c.loop-byte-test.true digit c.loop-byte.invariant.value in
    let fail : c.loop-byte.value * 10 < 18446744073709551616 → ⊥ = c.in_err-checked_mul.ensures in
    rw c.from_residual.ensures (λ all. omega (arith, next.1))

pub returns-in_err-value : goal.returns-in_err-value
returns-in_err-value c =
    let digit : is_ascii_digit (slice_index_or c.args.bytes.now c.loop-byte.byte-index 0) ≡ true = sym c.is_ascii_digit.ensures.value ∙ c.if-not-is_ascii_digit.false in
    let next = next_digit c.args.bytes.now c.loop-byte.byte-index c.loop-byte.value c.loop-byte-test.true digit c.loop-byte.invariant.value in
    let fail : c.in_ok-checked_mul.field-0 + c.from.result < 18446744073709551616 → ⊥ = c.in_err-value.ensures in
    let mul = c.in_ok-checked_mul.ensures in
    rw c.from_residual-in_err-value.ensures (λ all. omega (arith, next.1, mul.1, c.from.ensures))

pub loop-byte-preserved : goal.loop-byte-preserved
loop-byte-preserved c =
    let digit : is_ascii_digit (slice_index_or c.args.bytes.now c.loop-byte.byte-index 0) ≡ true = sym c.is_ascii_digit.ensures.value ∙ c.if-not-is_ascii_digit.false in
    let so_far = c.loop-byte.invariant in
    let next = next_digit c.args.bytes.now c.loop-byte.byte-index c.loop-byte.value c.loop-byte-test.true digit so_far.value in
    let added = c.in_ok-value.ensures in
    let times = c.in_ok-checked_mul.ensures in record {
      digits = digits_more c.args.bytes.now c.loop-byte.byte-index c.loop-byte-test.true so_far.digits digit;
      value = omega (arith, next.0, added.1, times.1, c.from.ensures);
    }
