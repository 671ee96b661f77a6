use Rattle.std.proofs.Common.{◌∙◌, sym}
use Rattle.worker_journals.proofs.HistoryLemmas.{get_some}
use Rattle.worker_journals.proofs.journal.JournalEntriesIterator.next.Goals as goal

pub returns-clause-steps : goal.returns-clause-steps
returns-clause-steps c =
    let e = c.self.inside in
    sym c.self.view_is ∙ get_some e.journal.now.entries e.place c.entry-entry.result c.entry-entry.ensures.entry
