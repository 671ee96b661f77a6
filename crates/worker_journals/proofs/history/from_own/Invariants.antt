use Rattle.std.proofs.Common.{◌≡◌, drop}
use Rattle.worker_journals.specs.Merged.{entries_of}
use Rattle.worker_journals.proofs.history.from_own.Given as goal

abbrev pub invariant-loop-place : goal.invariant-loop-place
invariant-loop-place l = entries_of l.worker l.journals ≡ entries_of l.worker (drop l.place l.journals)
