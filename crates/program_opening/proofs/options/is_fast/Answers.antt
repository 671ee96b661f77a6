use Rattle.std.proofs.Common.{◌&&◌, not}
use Rattle.program_opening.proofs.options.is_fast.Goals as goal

pub returns-then-flag_of : goal.returns-then-flag_of
returns-then-flag_of c = λ i. c.if-flag_of.ensures i && not (c.is_given.ensures i)
