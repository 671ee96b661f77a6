use Rattle.std.proofs.Common.{◌≡◌, arith, get_or}
use Rattle.record_reading.proofs.{DigitLemmas.{more_after}, QuotedFieldLemmas.{unquoted_more}}
use Rattle.record_reading.proofs.plain_fields.quote_or_feed.Goals as goal

pub loop-byte-preserved : goal.loop-byte-preserved
loop-byte-preserved c =
    let text = c.args.text.now in let at = c.loop-byte.at in let inv = c.loop-byte.invariant in
    let quote : get_or text at 0 ≡ 34 → ⊥ = λ is. omega (arith, is) in record {
      reaches = omega arith;
      within = more_after text at c.requires.ends inv.within c.if-byte-eq10.false;
      so_far = unquoted_more text c.args.from at inv.reaches inv.within quote inv.so_far;
    }

pub returns-clause-unquoted : goal.returns-clause-unquoted
returns-clause-unquoted c = c.loop-byte.invariant.so_far
