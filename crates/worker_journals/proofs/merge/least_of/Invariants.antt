use Rattle.worker_journals.proofs.Least.{LeastSoFar}
use Rattle.worker_journals.proofs.merge.least_of.Given as goal

abbrev pub invariant-loop-i : goal.invariant-loop-i
invariant-loop-i l = LeastSoFar l.numbers l.i l.least
