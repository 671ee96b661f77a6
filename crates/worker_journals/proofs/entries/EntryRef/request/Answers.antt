use Rattle.worker_journals.proofs.PlaceLemmas.{request_is}
use Rattle.worker_journals.proofs.entries.EntryRef.request.Goals as goal

pub returns : goal.returns
returns c =
    let j = c.journal.inside in
    request_is j.phase j.worker j.sides j.heads.heads c.self.inside.place _ _ c.journal.view_is c.self.view_is _ c.request.ensures
