use Rattle.std.proofs.Common.{rules, ◌≡◌, ◌<◌, ◌≤◌, length, get_or, IfSome}
use Rattle.record_reading.proofs.NumeralLemmas.{few_read, numeral_is}
use Rattle.record_reading.proofs.fields.read_u64.Goals as goal

pub returns-in_default : goal.returns-in_default
returns-in_default c =
    let field = c.args.field.now in let found = c.short_number.result in
    let some : 1 ≤ length field = search rules in
    let first : get_or field 0 0 ≡ 48 → ⊥ = search rules in
    let fits : IfSome found (λ n. n < 18446744073709551616) = search rules in
    numeral_is field found some first fits (few_read field found c.short_number.ensures)

pub returns-in_default-2 : goal.returns-in_default-2
returns-in_default-2 c =
    let field = c.args.field.now in let found = c.long_number.result in
    let some : 1 ≤ length field = search rules in
    let first : get_or field 0 0 ≡ 48 → ⊥ = search rules in
    let fits : IfSome found (λ n. n < 18446744073709551616) = search rules in
    numeral_is field found some first fits c.long_number.ensures
