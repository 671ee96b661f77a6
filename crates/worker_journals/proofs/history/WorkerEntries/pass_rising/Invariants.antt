use Rattle.std.proofs.Common.{length}
use Rattle.worker_journals.specs.{Rising.{HasPassed}, inner.Phases.{journals_of}}
use Rattle.worker_journals.specs.inner.Places.{own_left}
use Rattle.worker_journals.proofs.history.WorkerEntries.pass_rising.Given as goal

abbrev pub invariant-loop-self : goal.invariant-loop-self
invariant-loop-self l = record {
  passed : HasPassed l.from l.fn.self (own_left l.self-inside.worker l.self-inside.here.now l.self-inside.place (journals_of l.self-inside.phases.now)) l.next;
}

abbrev pub decreases-loop-self : goal.decreases-loop-self
decreases-loop-self l = length l.self-inside.phases.now
