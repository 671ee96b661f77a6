use Rattle.std.proofs.Common.{refl}
use Rattle.program_serving.proofs.parts.add_part.Goals as goal

pub returns-in-Err-clause-refused : goal.returns-in-Err-clause-refused
returns-in-Err-clause-refused c = λ book start. record { place = c.in-Err.field-0.place; first = c.in-Err.ensures.refused book start; number_is = refl }
