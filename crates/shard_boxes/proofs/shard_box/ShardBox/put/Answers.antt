use Rattle.std.proofs.Common.{sym, ap, ◌∙◌, subst}
use Rattle.item_shards.specs.declared.shard.Shard.{Shard}
use Rattle.shard_boxes.proofs.BoxSteps.{puts}
use Rattle.shard_boxes.specs.inner.Passing.{MayPut}
use Rattle.shard_boxes.specs.{Lines.{after_lines}, Passes.{GrantState, start_of}, States.{state_of}}
use Rattle.shard_boxes.specs.declared.shard_box.Knowledge.{Knowledge}
use Rattle.shard_boxes.proofs.shard_box.ShardBox.put.Goals as goal

pub try_push_as-requires-clause-rule : goal.try_push_as-requires-clause-rule
try_push_as-requires-clause-rule g c =
    let knows = sym (ap (λ (l : GrantState). l.knows) c.grant.view_is) in
    let holds = ap (λ (v : Knowledge). v.holds) (sym knows) ∙ c.requires.holds in
    let may = subst (λ (v : Knowledge). MayPut (after_lines (start_of v) v.seen) (state_of c.args.shard) g.L.LineName.line) knows c.requires.may in
    puts _ _ _ _ _ holds may

pub put_into-requires-clause-holds : goal.put_into-requires-clause-holds
put_into-requires-clause-holds g c =
    ap (λ (v : Knowledge). v.holds) (c.in-Err.ensures.rule.1 ∙ ap (λ (l : GrantState). l.knows) c.grant.view_is) ∙ c.requires.holds

pub put_into-requires-clause-may : goal.put_into-requires-clause-may
put_into-requires-clause-may g c =
    let back = c.in-Err.ensures.rule in
    let knows = sym (back.1 ∙ ap (λ (l : GrantState). l.knows) c.grant.view_is) in
    subst (λ (y : Knowledge × Shard). MayPut (after_lines (start_of y.0) y.0.seen) (state_of y.1) g.L.LineName.line)
    (λ i. (knows i, sym back.0 i)) c.requires.may
