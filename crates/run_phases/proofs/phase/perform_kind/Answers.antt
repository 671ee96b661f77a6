use Rattle.std.proofs.Common.{refl, sym, subst}
use Rattle.job_threads.proofs.ThreadLemmas.{err_as}
use Rattle.run_phases.{proofs.PhaseLemmas.{ended_phase, can_perform}, specs.Phases.{IsMet}}
use Rattle.run_phases.proofs.phase.perform_kind.Goals as goal

pub begin-requires : goal.begin-requires
begin-requires g c = record { shards = c.requires.shards; workers = c.requires.workers; kind = c.requires.kind; first = c.requires.plan.1; may = c.requires.may }

pub returns-in_err-begun-clause-fault : goal.returns-in_err-begun-clause-fault
returns-in_err-begun-clause-fault g c =
    let scripts = c.args.plan.round.scripts.now in
    err_as c.from_residual.result c.in_err-begun.field-0.0 (IsMet scripts) c.from_residual.ensures.1 (subst (IsMet scripts) (sym c.in_err-begun.ensures.fault) tt)

pub perform_begun-requires-clause-ready : goal.perform_begun-requires-clause-ready
perform_begun-requires-clause-ready g c κs within = can_perform c.requires.plan.1 c.requires.may c.in_ok-begun.ensures.begun c.requires.plan.0 _

pub returns-clause-performed : goal.returns-clause-performed
returns-clause-performed g c =
    let phase = c.in_ok-state.ensures in record {
      history = phase.history;
      last = phase.last;
      closed = ended_phase c.requires.plan.1 c.requires.may c.in_ok-begun.ensures.begun c.requires.shards _ c.requires.kind phase.ended;
      sets_are = refl;
    }
