use Rattle.std.proofs.Common.{◌∙◌, sym, subst}
use Rattle.worker_journals.proofs.HistoryLemmas.{last_shown, last_are_phase}
use Rattle.worker_journals.specs.Histories.{ArePhase}
use Rattle.worker_journals.proofs.history.History.last_phase.Goals as goal

pub returns-in-Some-clause-last : goal.returns-in-Some-clause-last
returns-in-Some-clause-last c =
    let found = rw c.deref.ensures.value at (sym c.in-Some.ensures.value) in
    c.as_slice.ensures.value ∙ last_shown _ _ _ c.self.view_is found

pub returns-in-Some-clause-phase : goal.returns-in-Some-clause-phase
returns-in-Some-clause-phase c =
    let found = rw c.deref.ensures.value at (sym c.in-Some.ensures.value) in
    subst ArePhase (sym c.as_slice.ensures.value) (last_are_phase _ _ c.self.invariant.each found)
