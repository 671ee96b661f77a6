use Rattle.std.proofs.Common.{refl}
use Rattle.program_opening.proofs.options.number_or.Goals as goal

pub returns-then-is_fast-clause-fast : goal.returns-then-is_fast-clause-fast
returns-then-is_fast-clause-fast c = λ is. refl
