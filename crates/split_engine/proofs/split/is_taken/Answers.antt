use Rattle.std.{proofs.Common.{◌&&◌, sym, ap, ◌∙◌}, specs.List.{list_all}}
use Rattle.split_engine.specs.inner.Phases.{is_hot}
use Rattle.split_engine.proofs.split.is_taken.Goals as goal

-- it splits: what is left is whether its keys are hot
pub returns-then-splits : goal.returns-then-splits
returns-then-splits g c =
    let rules = g.A.Application.rules in let are_hot = list_all (is_hot c.args.hot.now) in
    c.are_hot.ensures ∙ ap are_hot c.keys-keys.ensures
    ∙ ap (λ splits. splits && are_hot (rules.keys c.args.request.now)) (sym c.if-splits.true ∙ c.splits.ensures)
