use Rattle.std.proofs.Common.{◌≡◌, length}
use Rattle.split_engine.specs.inner.Phases.{AreFresh}
use Rattle.split_engine.proofs.runs.new_cursors.Given as goal

abbrev pub invariant-loop-worker : goal.invariant-loop-worker
invariant-loop-worker g l = record {
  len : length l.cursors.items ≡ l._worker;
  fresh : AreFresh l.cursors.items;
}
