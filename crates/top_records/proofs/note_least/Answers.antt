use Rattle.std.proofs.Common.{◌-◌, length, slice_get, eqb-true, sym, ap, ◌∙◌}
use Rattle.std.proofs.lemmas.Bool.{eqb-false}
use Rattle.top_records.proofs.Places.{full_to_last, not_full}
use Rattle.top_records.proofs.note_least.Goals as goal

pub returns-then-is_full : goal.returns-then-is_full
returns-then-is_full g c =
    full_to_last g.row.K c.args.entries.now.items c.copied.result (eqb-true _ _ (sym c.is_full.ensures.value ∙ c.if-is_full.true))
    (c.copied.ensures ∙ c.last.ensures.value ∙ ap (λ held. slice_get held (length held - 1)) c.deref.ensures.0)

pub returns-else-is_full : goal.returns-else-is_full
returns-else-is_full g c = not_full g.row.K c.args.entries.now.items c.args.least.now (eqb-false _ _ (sym c.is_full.ensures.value ∙ c.if-is_full.false)) c.requires
