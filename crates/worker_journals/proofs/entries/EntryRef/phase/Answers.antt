use Rattle.std.proofs.Common.{◌∙◌, sym}
use Rattle.worker_journals.proofs.PlaceLemmas.{is_own}
use Rattle.worker_journals.proofs.entries.EntryRef.phase.Goals as goal

pub returns : goal.returns
returns c =
    let e = c.self.inside in
    let own = is_own e.journal.now.phase e.journal.now.worker e.journal.now.entries e.place c.self.invariant.1.own c.self.invariant.0 in
    rw (← c.self.view_is) (c.phase.ensures ∙ sym own.0)
