use Rattle.std.proofs.Common.{true, [], map, length, sym, ap, ◌∙◌}
use Rattle.phase_floor.specs.Begins.{empty_stash}
use Rattle.run_phases.proofs.PhaseLemmas.{only_memory, not_too_long, given_quotas, empty_at}
use Rattle.run_phases.proofs.phase.SplitPhaseBeginKind.begin.Goals as goal

pub begin_split_in-requires : goal.begin_split_in-requires
begin_split_in-requires g c =
    let may = c.requires.may in record {
      can = record {
        shards = c.requires.shards;
        workers = c.requires.workers;
        quotas = ap length c.deref.ensures.value ∙ c.in_ok-quotas.ensures.len ∙ may.scripts_are ∙ c.requires.workers;
        phase = may.counted;
      };
    }

pub begin_fault-requires : goal.begin_fault-requires
begin_fault-requires g c =
    only_memory c.in-Err.fault (λ is. c.in-Err.ensures.refused.unknown.0 is c.requires.may.exist)
    (λ is. not_too_long c.requires.may [] c.deref.result.now (λ w. sym (c.requires.may.split c.requires.kind w)) (given_quotas c.args.plan.now.policy c.args.plan.now.round.scripts.now c.args.before.0.phase _ _ _ true c.requires.kind c.requires.first c.deref.ensures.value c.in_ok-quotas.ensures.each) (c.in-Err.ensures.refused.too_long.0 is).1)

pub returns-in-Ok-clause-begun : goal.returns-in-Ok-clause-begun
returns-in-Ok-clause-begun g c =
    let start = c.in-Ok.ensures.begun in record {
      opening_is = start.opens.opening;
      limit_is = start.opens.limit;
      phase_is = start.opens.phase;
      counters_are = start.opens.counters;
      hot_are = start.hot;
      quotas = c.deref.result.now;
      quotas_are = given_quotas c.args.plan.now.policy c.args.plan.now.round.scripts.now c.args.before.0.phase _ _ _ true c.requires.kind c.requires.first c.deref.ensures.value c.in_ok-quotas.ensures.each;
      handed = map empty_stash c.deref.result.now;
      handed_are = λ w. empty_at c.deref.result.now w ∙ sym (c.requires.may.split c.requires.kind w);
      new = start.opens.permits;
    }
