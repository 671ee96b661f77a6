use Rattle.std.proofs.Common.{◌≡◌, length}
use Rattle.split_engine.proofs.phasing.Phasing.choose.Given as goal

abbrev pub invariant-loop-commit : goal.invariant-loop-commit
invariant-loop-commit g l = length l.self.hot.items ≡ length l.fn.self.hot.items
