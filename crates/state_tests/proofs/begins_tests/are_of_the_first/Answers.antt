use Rattle.std.proofs.{Common.{arith}, lemmas.Grind.{common_steps}}
use Rattle.state_tests.proofs.begins_tests.are_of_the_first.Goals as goal

pub returns : goal.returns
returns c = grind (arith, common_steps)
