use Rattle.std.proofs.Common.{arith}
use Rattle.byte_texts.proofs.DecimalLemmas.{counted_up, some_digits}
use Rattle.byte_texts.proofs.numeral.Numeral.count_up_to.Goals as goal

pub overflow_sub-last : goal.overflow_sub-last
overflow_sub-last c = some_digits c.self.inside.digits c.self.inside.len c.self.inside.number c.self.invariant (omega arith)

pub overflow_sub-self : goal.overflow_sub-self
overflow_sub-self c = some_digits c.self.inside.digits c.self.inside.len c.self.inside.number c.self.invariant (omega arith)

pub invariant_of-self : goal.invariant_of-self
invariant_of-self c = counted_up c.self.inside.digits c.self.inside.len c.self.inside.number c.args.number c.self.invariant (omega arith) (omega arith) (omega arith)
