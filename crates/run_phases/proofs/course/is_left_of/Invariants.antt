use Rattle.std.proofs.Common.{◌≡◌, ℕ, ◌<◌, ◌≤◌, length}
use Rattle.run_laws.specs.Serving.{script_of}
use Rattle.run_phases.specs.inner.Plans.{waiting_in}
use Rattle.run_phases.proofs.course.is_left_of.Given as goal

abbrev pub invariant-loop-worker : goal.invariant-loop-worker
invariant-loop-worker l = (w : ℕ) → w < l.worker → (length (script_of l.scripts w) ≤ l.first) × (length (waiting_in l.stashes w) ≡ 0)
