use Rattle.std.{proofs.Common.{◌≡◌, true, sym, ap, subst}, specs.List.{AllByRecursion}}
use Rattle.split_engine.specs.Rules.{looks_in}
use Rattle.split_engine.proofs.split.perform.Goals as goal

-- the acts of a request that splits
pub act_all-requires-clause-splits : goal.act_all-requires-clause-splits
act_all-requires-clause-splits g c =
    let rules = g.A.Application.rules in
    subst (AllByRecursion (λ x. rules.is_splittable x ≡ true)) (sym (ap (λ d. d.acts) c.decide-decision.ensures.value))
    (g.met.A.Application.laws.acts_split c.args.request.now (looks_in rules c.looks_at-looks.result) c.requires.splits)
