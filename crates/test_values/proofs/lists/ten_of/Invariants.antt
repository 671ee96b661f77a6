use Rattle.std.proofs.Common.{◌≡◌, take}
use Rattle.test_values.proofs.lists.ten_of.Given as goal

abbrev pub invariant-loop-value : goal.invariant-loop-value
invariant-loop-value g l = l.list ≡ take l.value-index l.values
