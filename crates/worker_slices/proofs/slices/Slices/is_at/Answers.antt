use Rattle.std.proofs.{Common.{subst, sym, ◌∙◌}, lemmas.Bool.{OnTrue_from}}
use Rattle.worker_slices.{proofs.Places.{at_where_read}, specs.Slicing.{IsAt}}
use Rattle.worker_slices.proofs.slices.Slices.is_at.Goals as goal

pub returns-in-Some : goal.returns-in-Some
returns-in-Some c =
    OnTrue_from c.eq.result _ (λ same.
    subst (λ hs. IsAt hs c.args.place c.args.object) c.self.view_is
    (at_where_read c.args.object c.self.inside.hot.entries _ _ _ c.in-Some.ensures.entry (sym c.eq.ensures ∙ same)))
