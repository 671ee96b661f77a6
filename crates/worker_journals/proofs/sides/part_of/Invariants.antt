use Rattle.std.proofs.Common.{◌≡◌, take}
use Rattle.worker_journals.proofs.sides.part_of.Given as goal

abbrev pub invariant-loop-value : goal.invariant-loop-value
invariant-loop-value g l = l.shown ≡ take l.value-index l.value-items
