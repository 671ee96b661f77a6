use Rattle.std.proofs.Common.{◌∙◌, ◌++◌, ℕ, ap, arith, decimal, take}
use Rattle.byte_texts.proofs.DecimalLemmas.{digits_put}
use Rattle.byte_texts.proofs.numeral.Numeral.put.Goals as goal

pub returns-clause-text : goal.returns-clause-text
returns-clause-text c =
    digits_put c.args.bytes.now c.self.inside.digits c.copy_from_slice.new.self _ c.self.inside.len c.self.inside.number c.args.at c.self.invariant c.copy_from_slice.ensures.after (omega arith)
    ∙ ap (λ (n : ℕ). take c.args.at c.args.bytes.now ++ decimal n) c.self.view_is
