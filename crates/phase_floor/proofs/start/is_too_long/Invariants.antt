use Rattle.std.proofs.Common.{ℕ, ◌<◌, ◌≤◌}
use Rattle.phase_floor.specs.Begins.{asked_in_all}
use Rattle.phase_floor.proofs.start.is_too_long.Given as goal

abbrev pub invariant-loop-w : goal.invariant-loop-w
invariant-loop-w l = (w : ℕ) → w < l.w → asked_in_all l.counters l.stashes l.quotas w ≤ l.limit
