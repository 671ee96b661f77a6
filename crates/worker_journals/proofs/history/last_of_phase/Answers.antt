use Rattle.std.proofs.{Common.{◌≤◌, arith, subst}, lemmas.List.{take_all}}
use Rattle.std.specs.List.{AllByRecursion}
use Rattle.worker_journals.{proofs.LastLemmas.{one_more}, specs.Journals.{JournalView}}
use Rattle.worker_journals.proofs.history.last_of_phase.Goals as goal

pub loop-journal-preserved : goal.loop-journal-preserved
loop-journal-preserved c = λ worker below.
    let so_far = c.loop-journal.invariant worker (omega (arith, below, c.later-last.ensures.first)) in (
      so_far.0,
      one_more (λ (j : JournalView). j.worker ≤ worker) c.args.journals.now c.loop-journal.journal-index c.journal-item.result c.loop-journal-test.true c.journal-item.is so_far.1
          (omega (arith, below, c.later-last.ensures.second, c.worker.ensures)),
    )

pub returns : goal.returns
returns c = λ worker below.
    let so_far = c.loop-journal.invariant worker below in
    (so_far.0, subst (AllByRecursion (λ (j : JournalView). j.worker ≤ worker)) (take_all c.loop-journal.journal-index c.args.journals.now (omega arith)) so_far.1)
