use Rattle.std.proofs.Common.{◌≡◌, ◌<◌, ℕ, false, Some}
use Rattle.split_engine.specs.Serving.{lists, request_at}
use Rattle.application_check.proofs.marks.unmarked.Given as goal

abbrev pub invariant-loop-worker : goal.invariant-loop-worker
invariant-loop-worker l = (w : ℕ) → w < l.worker → (i : ℕ) → request_at (lists l.marks) w i ≡ Some false → ⊥
