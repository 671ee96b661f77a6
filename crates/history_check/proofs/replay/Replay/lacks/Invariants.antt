use Rattle.std.proofs.Common.{◌≡◌, ℕ, ◌<◌, true, length}
use Rattle.run_laws.specs.Serving.{script_of}
use Rattle.history_check.specs.Marks.{is_marked}
use Rattle.history_check.proofs.replay.Replay.lacks.Given as goal

abbrev pub invariant-loop-worker : goal.invariant-loop-worker
invariant-loop-worker l = (w i : ℕ) → w < l.worker → i < length (script_of l.scripts w) → is_marked l.self.marks.rows.items w i ≡ true
