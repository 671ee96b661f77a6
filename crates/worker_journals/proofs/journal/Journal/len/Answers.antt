use Rattle.std.proofs.{Common.{◌≡◌, length, sym, ap, ◌∙◌, arith}, lemmas.List.{length-map}}
use Rattle.worker_journals.specs.{Journals.{JournalView}, inner.Entries.{entry_from}}
use Rattle.worker_journals.proofs.journal.Journal.len.Goals as goal

pub returns-clause-fits : goal.returns-clause-fits
returns-clause-fits c =
    let j = c.self.inside in
    let many : c.len.result ≡ length c.args.self.now.entries = c.len.ensures.len ∙ sym (length-map j.heads.heads (entry_from j.phase j.worker j.sides)) ∙ ap (λ (journal : JournalView). length journal.entries) c.self.view_is in
    omega (arith, many, c.len.type_inv)
