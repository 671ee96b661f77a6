use Rattle.std.{proofs.Common.{◌≡◌, ◌++◌, length}, specs.List.{AllByRecursion}}
use Rattle.worker_journals.specs.{Histories.{ArePhase}, inner.Phases.{entries_in, journals_of}}
use Rattle.worker_journals.proofs.history.EntriesIterator.next.Given as goal

abbrev pub invariant-loop-first : goal.invariant-loop-first
invariant-loop-first l = record {
  each : AllByRecursion ArePhase (journals_of l.self-inside.phases.now);
  left : l.fn.self ≡ l.self-inside.phase ++ entries_in (journals_of l.self-inside.phases.now);
}

abbrev pub decreases-loop-first : goal.decreases-loop-first
decreases-loop-first l = length l.self-inside.phases.now
