use Rattle.std.proofs.{Common.{arith}, lemmas.Grind.{common_steps}}
use Rattle.phase_floor.proofs.start.is_over.Goals as goal

pub returns-else-waiting-limit : goal.returns-else-waiting-limit
returns-else-waiting-limit c = grind (arith, common_steps)
