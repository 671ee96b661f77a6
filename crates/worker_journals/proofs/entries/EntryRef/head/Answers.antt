use Rattle.worker_journals.proofs.PlaceLemmas.{head_says}
use Rattle.worker_journals.proofs.entries.EntryRef.head.Goals as goal

pub returns : goal.returns
returns c =
    let j = c.journal.inside in
    head_says j.phase j.worker j.sides j.heads.heads c.self.inside.place _ _ c.journal.view_is c.self.view_is _ c.journal.invariant.0.within c.head.ensures
