use Rattle.std.proofs.Common.{arith, ◌≡◌, ◌-◌, ◌∙◌, true, slice_index_or, sym}
use Rattle.std.specs.Char.{is_ascii_digit}
use Rattle.record_reading.proofs.NumberLemmas.{digit_bound, digits_more, next_bound, next_digit, room}
use Rattle.record_reading.proofs.fields.short_number.Goals as goal

pub overflow_mul-value : goal.overflow_mul-value
overflow_mul-value c =
    let fits = room c.loop-byte.value c.loop-byte.byte-index 0 c.loop-byte.invariant.bound (omega arith) (omega arith) in
    omega (arith, fits)

pub overflow_add-value : goal.overflow_add-value
overflow_add-value c =
    let byte = slice_index_or c.args.bytes.now c.loop-byte.byte-index 0 in
    let digit : is_ascii_digit (slice_index_or c.args.bytes.now c.loop-byte.byte-index 0) ≡ true = sym c.is_ascii_digit.ensures.value ∙ c.if-not-is_ascii_digit.false in
    let fits = room c.loop-byte.value c.loop-byte.byte-index (byte - 48) c.loop-byte.invariant.bound (omega arith) (digit_bound byte digit) in
    omega (arith, fits, c.from.ensures)

pub loop-byte-preserved : goal.loop-byte-preserved
loop-byte-preserved c =
    let byte = slice_index_or c.args.bytes.now c.loop-byte.byte-index 0 in
    let digit : is_ascii_digit (slice_index_or c.args.bytes.now c.loop-byte.byte-index 0) ≡ true = sym c.is_ascii_digit.ensures.value ∙ c.if-not-is_ascii_digit.false in
    let so_far = c.loop-byte.invariant in
    let next = next_digit c.args.bytes.now c.loop-byte.byte-index c.loop-byte.value c.loop-byte-test.true digit so_far.value in
    let bound = next_bound c.loop-byte.value c.loop-byte.byte-index (byte - 48) so_far.bound (digit_bound byte digit) in
    record {
      digits = digits_more c.args.bytes.now c.loop-byte.byte-index c.loop-byte-test.true so_far.digits digit;
      value = omega (arith, next.0, c.from.ensures);
      bound = omega (arith, bound, c.from.ensures);
    }
