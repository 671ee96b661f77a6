use Rattle.std.proofs.Common.{◌≡◌, length}
use Rattle.split_engine.proofs.phasing.Phasing.forget.Given as goal

abbrev pub invariant-loop-place : goal.invariant-loop-place
invariant-loop-place l = record {
  hot : length l.self.hot.items ≡ length l.fn.self.hot.items;
  named : l.self.named ≡ l.fn.self.named;
}
