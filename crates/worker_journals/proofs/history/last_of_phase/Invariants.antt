use Rattle.std.{proofs.Common.{ℕ, ◌≤◌, take}, specs.List.{AllByRecursion}}
use Rattle.worker_journals.proofs.history.last_of_phase.Given as goal

abbrev pub invariant-loop-journal : goal.invariant-loop-journal
invariant-loop-journal l = (worker : ℕ) → l.last ≤ worker →
    (l.before ≤ worker) × AllByRecursion (λ journal. journal.worker ≤ worker) (take l.journal-index l.journals)
