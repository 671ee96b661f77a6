use Rattle.std.proofs.Common.{◌≡◌, arith, get_or}
use Rattle.record_reading.proofs.DigitLemmas.{more_after, span}
use Rattle.record_reading.proofs.PlainFieldLemmas.{inside_more, inside_plain}
use Rattle.record_reading.proofs.plain_fields.field_end.Goals as goal

pub loop-byte-preserved : goal.loop-byte-preserved
loop-byte-preserved c =
    let text = c.args.text.now in let at = c.loop-byte.at in let inv = c.loop-byte.invariant in
    let quote : get_or text at 0 ≡ 34 → ⊥ = λ is. omega (arith, is) in record {
      reaches = omega arith;
      within = more_after text at c.requires.ends inv.within c.if-byte-eq10.false;
      so_far = inside_more text c.args.from at inv.reaches inv.within c.if-byte-eq44.false c.if-byte-eq10.false c.if-byte-eq13.false quote inv.so_far;
    }

pub returns-clause-plain : goal.returns-clause-plain
returns-clause-plain c = inside_plain (span c.args.text.now c.args.from c.loop-byte.at) c.loop-byte.invariant.so_far
