use Rattle.std.proofs.Common.{◌≡◌, ◌∙◌, ap, subst, Err, IfErr}
use Rattle.phase_transactions.specs.declared.fault.PermitFault.TheVariants as permit
use Rattle.phase_workers.specs.Tasks.{IsFirstFault, tasks}
use Rattle.run_phases.proofs.PhaseLemmas.{can_with, none_met_the_end}
use Rattle.run_phases.proofs.phase.perform_begun.Goals as goal

pub serve_all-requires-clause-workers : goal.serve_all-requires-clause-workers
serve_all-requires-clause-workers g c κs within = c.args.begun.1.ok.0 ∙ c.requires.ready.permits_are

pub serve_all-requires-clause-can : goal.serve_all-requires-clause-can
serve_all-requires-clause-can g c κs within = can_with c.requires.ready c.boxes.ensures.boxes c.boxes.ensures.opening

pub serve_all-requires-clause-of : goal.serve_all-requires-clause-of
serve_all-requires-clause-of g c κs within = c.requires.ready.of

pub close_on-requires-clause-receipts : goal.close_on-requires-clause-receipts
close_on-requires-clause-receipts g c = c.requires.ready.receipts_are c.in_ok-receipts.receipts.items c.in_ok-receipts.ensures.receipts

pub unreachable-requires : goal.unreachable-requires
unreachable-requires g c =
    let served = c.in_ok-receipts in let receipts = served.receipts.items in
    let given = tasks c.args.begun.1.items c.args.plan.round.scripts.now c.args.plan.round.first in
    let full : served.done ≡ Err permit.NumberFull = c.in-Err.is ∙ ap Err c.in-NumberFull.is in
    none_met_the_end g.K.Kind.IS_JOINED g.N.PhaseName.initial given receipts
    (subst (λ done. IfErr done (IsFirstFault g.K.Kind.IS_JOINED g.N.PhaseName.initial given receipts)) full served.ensures.stopped) c.in-Ok-close.ensures.leaves.numbers
