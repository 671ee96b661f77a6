use Rattle.std.{proofs.Common.{sym, subst}, specs.List.{AllByRecursion}}
use Rattle.worker_journals.proofs.GrowthLemmas.{closed_kept, closed_shown, of_script}
use Rattle.worker_journals.specs.{Journals.{IsOfScript, JournalView}, inner.HeadLists.{IsRising}}
use Rattle.worker_journals.proofs.journal.Journal.close_on.Goals as goal

pub close_on-requires : goal.close_on-requires
close_on-requires c =
    let j = c.self.inside in
    of_script j.phase j.worker j.sides c.args.script j.heads.heads
    (subst (λ (journal : JournalView). AllByRecursion (IsOfScript c.args.script) journal.entries) (sym c.self.view_is) c.requires)

pub invariant_of-self : goal.invariant_of-self
invariant_of-self c =
    let j = c.self.inside in
    let heads = c.close_on in (
      closed_kept j.phase j.worker j.heads.heads heads.new.self.heads j.sides c.close-sides.new.self heads.ensures c.close-sides.ensures _ _ c.self.invariant.0,
      subst (λ hs. IsRising j.is_rising hs j.next) (sym heads.ensures) c.self.invariant.1,
    )

pub returns : goal.returns
returns c =
    let j = c.self.inside in
    closed_shown j.phase j.worker j.heads.heads c.close_on.new.self.heads j.sides c.close-sides.new.self c.close_on.ensures c.close-sides.ensures _ c.self.view_is
