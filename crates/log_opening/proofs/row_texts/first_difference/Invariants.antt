use Rattle.std.proofs.Common.{◌≡◌, take}
use Rattle.log_opening.proofs.row_texts.first_difference.Given as goal

abbrev pub invariant-loop-at : goal.invariant-loop-at
invariant-loop-at l = take l.at l.text ≡ take l.at l.other
