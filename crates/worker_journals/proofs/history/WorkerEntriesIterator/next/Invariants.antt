use Rattle.std.proofs.Common.{◌≡◌, length}
use Rattle.worker_journals.specs.inner.{Phases.{journals_of}, Places.{own_left}}
use Rattle.worker_journals.proofs.history.WorkerEntriesIterator.next.Given as goal

abbrev pub invariant-phases : goal.invariant-phases
invariant-phases l = record {
  left : l.fn.self ≡ own_left l.self-inside.worker l.self-inside.here.now l.self-inside.place (journals_of l.self-inside.phases.now);
}

abbrev pub decreases-phases : goal.decreases-phases
decreases-phases l = length l.self-inside.phases.now
