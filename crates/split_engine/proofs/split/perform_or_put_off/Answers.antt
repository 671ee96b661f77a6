use Rattle.std.proofs.Common.{ℕ, ◌++◌, [], ◌∷◌, ◌∙◌, sym, subst}
use Rattle.split_engine.{proofs.Works.{stashed_more}, specs.inner.Phases.{HasPerformedOnSlices}}
use Rattle.split_engine.proofs.split.perform_or_put_off.Goals as goal

pub returns-clause-done : goal.returns-clause-done
returns-clause-done g c = λ before all done.
    let s = g.A.Application in let phase = c.args.phase.now in let own = c.args.own.now in
    let call : ℕ × g.row.A-Request.Denot = (c.args.index, c.args.request.now) in
    subst (HasPerformedOnSlices s.rules s.is_small phase.plan.hot.now phase.table.now c.args.worker (all ++ call ∷ []) own.journal.items own.slices before)
    (sym c.in_ok-push-2.ensures.items)
    (stashed_more s.rules s.is_small phase.plan.hot.now phase.table.now c.args.worker before all own.journal.items own.slices own.cursor.stash.items call done
    (sym c.is_taken.ensures ∙ c.if-is_taken.false))
