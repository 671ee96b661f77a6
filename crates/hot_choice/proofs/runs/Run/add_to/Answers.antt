use Rattle.std.proofs.Common.{arith}
use Rattle.hot_choice.proofs.runs.Run.add_to.Goals as goal

pub returns : goal.returns
returns c =
    let sum = rw c.in_ok-sum.ensures.ok_part at c.checked_add.ensures in
    omega (arith, sum, c.from.ensures)
