use Rattle.std.proofs.{Common.{◌≤◌, ◌∙◌, List, ap, subst, arith}, lemmas.List.{take_all}}
use Rattle.std.specs.{Global.{Vec}, List.{AllByRecursion}}
use Rattle.auction_rows.specs.declared.rows.Entry.{Entry}
use Rattle.worker_journals.proofs.LastLemmas.{all_items, none_later, one_more}
use Rattle.worker_journals.specs.{Histories.{HistoryView}, Journals.{JournalView}}
use Rattle.worker_journals.specs.inner.Phases.{journals_of}
use Rattle.worker_journals.proofs.history.History.last_worker.Goals as goal

pub loop-journals-preserved : goal.loop-journals-preserved
loop-journals-preserved c = λ worker below.
    let here = c.last_of_phase-last.ensures worker below in
    one_more (λ (phase : Vec JournalView). AllByRecursion (λ (j : JournalView). j.worker ≤ worker) phase.items) c.deref-journals-items.result.now
    c.loop-journals.journals-index c.journals-item.result c.loop-journals-test.true c.journals-item.is (c.loop-journals.invariant worker here.0)
    (subst (AllByRecursion (λ (j : JournalView). j.worker ≤ worker)) c.as_slice.ensures.value here.1)

pub returns : goal.returns
returns c =
    let phases : List (Vec JournalView) = c.self.inside.phases.items in
    let last = c.loop-journals.last in
    let all = subst (AllByRecursion (λ (phase : Vec JournalView). AllByRecursion (λ (j : JournalView). j.worker ≤ last) phase.items))
    (take_all c.loop-journals.journals-index c.deref-journals-items.result.now (omega arith) ∙ c.deref-journals-items.ensures.value)
    (c.loop-journals.invariant last (omega arith)) in
    subst (AllByRecursion (λ (e : Entry). e.worker ≤ last)) (ap (λ (h : HistoryView). h.entries) c.self.view_is)
    (none_later last (journals_of phases) c.self.invariant.each (all_items (AllByRecursion (λ (j : JournalView). j.worker ≤ last)) phases all))
