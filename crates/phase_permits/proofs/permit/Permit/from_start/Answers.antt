use Rattle.std.proofs.Common.{length, refl, sym, subst}
use Rattle.phase_permits.{proofs.PermitLemmas.{start_explained}, specs.inner.Permits.{IsPermit}}
use Rattle.phase_permits.proofs.permit.Permit.from_start.Goals as goal

pub invariant_of-result : goal.invariant_of-result
invariant_of-result g c =
    subst (IsPermit g.K.Kind.IS_JOINED (length g.N.PhaseName.initial)) (sym c.new.ensures)
    (c.requires.kind, start_explained (length g.N.PhaseName.initial) _ c.requires.can refl)
