use Rattle.std.proofs.{Common.{◌≤◌, arith, sym}, lemmas.Fmt.{decimal_digit}}
use Rattle.byte_texts.proofs.numeral.Numeral.zero.Goals as goal

pub invariant_of-result : goal.invariant_of-result
invariant_of-result c =
    let some : 1 ≤ 20 = omega arith in
    record { digits = sym (decimal_digit 0 (omega arith)); within = some }
