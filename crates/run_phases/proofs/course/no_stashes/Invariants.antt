use Rattle.std.proofs.Common.{◌≡◌, ℕ, [], length}
use Rattle.run_phases.specs.inner.Plans.{waiting_in}
use Rattle.run_phases.proofs.course.no_stashes.Given as goal

abbrev pub invariant-loop-worker : goal.invariant-loop-worker
invariant-loop-worker l = record {
  len : length l.stashes.items ≡ l._worker;
  none : (w : ℕ) → waiting_in l.stashes.items w ≡ [];
}
