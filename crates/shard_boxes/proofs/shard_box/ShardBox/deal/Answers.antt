use Rattle.std.proofs.Common.{sym, ap, ◌∙◌, subst}
use Rattle.shard_boxes.{proofs.PassSteps.{forks}, specs.Passes.{GrantState}}
use Rattle.shard_boxes.specs.inner.Passing.{Speaks}
use Rattle.shard_boxes.specs.declared.shard_box.Knowledge.{Knowledge}
use Rattle.shard_boxes.proofs.shard_box.ShardBox.deal.Goals as goal

pub another-requires-clause-rule : goal.another-requires-clause-rule
another-requires-clause-rule c =
    let knows = sym (ap (λ (l : GrantState). l.knows) c.grant.view_is) in
    forks _ _ (subst (λ (v : Knowledge). Speaks v) knows c.requires.speaks) (ap (λ (v : Knowledge). v.holds) (sym knows) ∙ c.requires.free)
