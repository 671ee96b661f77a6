use Rattle.std.proofs.Common.{◌≡◌, length}
use Rattle.split_engine.proofs.phasing.Phasing.count_keys.Given as goal

abbrev pub invariant-loop-key : goal.invariant-loop-key
invariant-loop-key l = length l.self.hot.items ≡ length l.fn.self.hot.items
