use Rattle.std.proofs.Common.{◌≡◌, ◌≤◌, arith, decimal, length, rules}
use Rattle.std.proofs.lemmas.{Fmt.{length-decimal-le}, Grind.{common_steps}}
use Rattle.byte_texts.proofs.DecimalLemmas.{digits_from}
use Rattle.byte_texts.proofs.numeral.put_digits.Goals as goal

pub write_digits-start-requires : goal.write_digits-start-requires
write_digits-start-requires c =
    let short : length (decimal c.args.number) ≤ 20 = search (rules, length-decimal-le 20) in
    (short, omega arith)

pub returns-clause-text : goal.returns-clause-text
returns-clause-text c =
    let long : length c.copy_from_slice.new.self ≡ 20 = grind (arith, common_steps) in
    digits_from c.args.bytes.now _ c.copy_from_slice.new.self _ _ _ c.args.number c.args.at _ c.write_digits-start.ensures.start c.write_digits-start.ensures.written
    c.copy_from_slice.ensures.after (omega arith) long (omega arith)
