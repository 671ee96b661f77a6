use Rattle.std.proofs.Common.{false, length, refl, sym, ap, ◌∙◌}
use Rattle.worker_slices.specs.Slicing.{hot_objects}
use Rattle.run_phases.proofs.PhaseLemmas.{only_memory, not_too_long, given_quotas}
use Rattle.run_phases.proofs.phase.JoinedPhaseBeginKind.begin.Goals as goal

pub begin_joined-requires : goal.begin_joined-requires
begin_joined-requires g c =
    let may = c.requires.may in record {
      can = record {
        shards = c.requires.shards;
        workers = c.requires.workers;
        quotas = ap length c.deref.ensures.value ∙ c.in_ok-quotas.ensures.len ∙ may.scripts_are ∙ c.requires.workers;
        phase = may.counted;
      };
      stashes = c.args.before.1.ok.0 ∙ may.stashes_are ∙ c.requires.workers;
    }

pub begin_fault-requires : goal.begin_fault-requires
begin_fault-requires g c =
    only_memory c.in-Err.fault c.in-Err.ensures.refused.known
    (λ is. not_too_long c.requires.may c.args.before.1.items c.deref.result.now (λ w. refl) (given_quotas c.args.plan.now.policy c.args.plan.now.round.scripts.now c.args.before.0.phase _ _ _ false c.requires.kind c.requires.first c.deref.ensures.value c.in_ok-quotas.ensures.each) (c.in-Err.ensures.refused.too_long.0 is))

pub returns-in-Ok-clause-begun : goal.returns-in-Ok-clause-begun
returns-in-Ok-clause-begun g c =
    let start = c.in-Ok.ensures.begun in record {
      opening_is = start.opens.opening;
      limit_is = start.opens.limit;
      phase_is = start.opens.phase;
      counters_are = start.opens.counters;
      hot_are = ap hot_objects start.cold ∙ sym (c.requires.may.joined c.requires.kind);
      quotas = c.deref.result.now;
      quotas_are = given_quotas c.args.plan.now.policy c.args.plan.now.round.scripts.now c.args.before.0.phase _ _ _ false c.requires.kind c.requires.first c.deref.ensures.value c.in_ok-quotas.ensures.each;
      handed = c.args.before.1.items;
      handed_are = λ w. refl;
      new = start.opens.permits;
    }
