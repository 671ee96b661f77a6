use Rattle.std.{proofs.Common.{ℕ, ◌≤◌, take}, specs.List.{AllByRecursion}}
use Rattle.worker_journals.proofs.history.History.last_worker.Given as goal

abbrev pub invariant-loop-journals : goal.invariant-loop-journals
invariant-loop-journals l = (worker : ℕ) → l.last ≤ worker →
    AllByRecursion (λ phase. AllByRecursion (λ journal. journal.worker ≤ worker) phase.items) (take l.journals-index l.journals-items)
