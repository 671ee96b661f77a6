use Rattle.std.proofs.Common.{sym, ap, ◌∙◌, subst, length, ◌+◌}
use Rattle.shard_boxes.{proofs.PassSteps.{merges}, specs.Passes.{GrantState}}
use Rattle.shard_boxes.specs.inner.Passing.{Speaks}
use Rattle.shard_boxes.specs.declared.shard_box.Knowledge.{Knowledge}
use Rattle.shard_boxes.proofs.shard_box.ShardBox.collect.Goals as goal

pub absorb-requires-clause-rule : goal.absorb-requires-clause-rule
absorb-requires-clause-rule c =
    let mine = sym (ap (λ (l : GrantState). l.knows) c.grant.view_is) in
    let theirs = sym (ap (λ (l : GrantState). l.knows) c.other.view_is) in
    merges _ _ _ _ (subst (λ (v : Knowledge). Speaks v) mine c.requires.speaks.0) (subst (λ (v : Knowledge). Speaks v) theirs c.requires.speaks.1)
    (ap (λ (v : Knowledge). v.holds) (sym mine) ∙ c.requires.free.0) (ap (λ (v : Knowledge). v.holds) (sym theirs) ∙ c.requires.free.1)
    (ap (λ (v : Knowledge). v.first) (sym theirs) ∙ c.requires.next ∙ ap (λ (v : Knowledge). v.first + length v.own) mine)
