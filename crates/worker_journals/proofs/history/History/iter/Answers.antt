use Rattle.std.proofs.Common.{◌∙◌, ◌++◌, ap}
use Rattle.worker_journals.{proofs.HistoryLemmas.{merged_nothing}, specs.Histories.{HistoryView}}
use Rattle.worker_journals.specs.inner.Phases.{entries_in, journals_of}
use Rattle.worker_journals.proofs.history.History.iter.Goals as goal

pub returns : goal.returns
returns c =
    ap (λ es. es ++ entries_in (journals_of c.deref.result.now)) (c.of.ensures ∙ merged_nothing)
    ∙ ap (λ ps. entries_in (journals_of ps)) c.deref.ensures.value
    ∙ ap (λ (h : HistoryView). h.entries) c.self.view_is
