use Rattle.std.proofs.{Common.{◌∙◌, ap, sym}, lemmas.Option.{slice_get-map}}
use Rattle.std.specs.Prelude.{Some, option_map}
use Rattle.worker_journals.specs.Journals.{entry_number}
use Rattle.worker_journals.proofs.merge.number_at.Goals as goal

pub returns-clause-number : goal.returns-clause-number
returns-clause-number c =
    ap (λ n. Some n) c.number.ensures ∙ sym (slice_get-map entry_number c.args.journal.now.entries c.args.place ∙ ap (option_map entry_number) c.entry.ensures.entry)
