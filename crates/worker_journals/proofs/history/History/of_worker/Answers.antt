use Rattle.std.proofs.Common.{◌∙◌, [], ap}
use Rattle.phase_laws.specs.Order.{part}
use Rattle.worker_journals.{proofs.HistoryLemmas.{own_all}, specs.Histories.{HistoryView}}
use Rattle.worker_journals.specs.{Journals.{entry_worker}, inner.Phases.{journals_of}}
use Rattle.worker_journals.specs.inner.Places.{own_left}
use Rattle.worker_journals.proofs.history.History.of_worker.Goals as goal

pub returns : goal.returns
returns c =
    ap (λ ps. own_left c.args.worker [] 0 (journals_of ps)) c.deref.ensures.value
    ∙ own_all c.args.worker _ c.self.invariant.each
    ∙ ap (λ (h : HistoryView). part entry_worker c.args.worker h.entries) c.self.view_is
