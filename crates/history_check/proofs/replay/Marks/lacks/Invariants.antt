use Rattle.std.proofs.Common.{◌≡◌, ℕ, ◌<◌, true}
use Rattle.history_check.specs.Marks.{is_marked}
use Rattle.history_check.proofs.replay.Marks.lacks.Given as goal

abbrev pub invariant-loop-index : goal.invariant-loop-index
invariant-loop-index l = (i : ℕ) → i < l.index → is_marked l.self.rows.items l.worker i ≡ true
