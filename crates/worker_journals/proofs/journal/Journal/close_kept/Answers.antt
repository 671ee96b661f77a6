use Rattle.std.proofs.Common.{sym, subst}
use Rattle.worker_journals.proofs.GrowthLemmas.{closed_kept, closed_shown}
use Rattle.worker_journals.specs.inner.HeadLists.{IsRising}
use Rattle.worker_journals.proofs.journal.Journal.close_kept.Goals as goal

pub invariant_of-self : goal.invariant_of-self
invariant_of-self c =
    let j = c.self.inside in
    let heads = c.shrink_to_fit in (
      closed_kept j.phase j.worker j.heads.heads heads.new.self.heads j.sides c.close-sides.new.self heads.ensures c.close-sides.ensures _ _ c.self.invariant.0,
      subst (λ hs. IsRising j.is_rising hs j.next) (sym heads.ensures) c.self.invariant.1,
    )

pub returns : goal.returns
returns c =
    let j = c.self.inside in
    closed_shown j.phase j.worker j.heads.heads c.shrink_to_fit.new.self.heads j.sides c.close-sides.new.self c.shrink_to_fit.ensures c.close-sides.ensures _ c.self.view_is
