use Rattle.std.proofs.Common.{arith}
use Rattle.byte_texts.proofs.DecimalLemmas.{carried}
use Rattle.byte_texts.proofs.numeral.Numeral.carry_to.Goals as goal

pub invariant_of-self : goal.invariant_of-self
invariant_of-self c = carried c.self.inside.digits c.self.inside.len c.self.inside.number c.args.number c.self.invariant (omega arith) (omega arith) c.if-self-lt2.false c.if-last-ne57.false (omega arith)
