use Rattle.std.proofs.Common.{sym, ap, subst}
use Rattle.shard_boxes.{proofs.BoxSteps.{takes}, specs.Passes.{GrantState}}
use Rattle.shard_boxes.specs.inner.Passing.{Speaks}
use Rattle.shard_boxes.specs.declared.shard_box.Knowledge.{Knowledge}
use Rattle.shard_boxes.proofs.shard_box.ShardBox.take.Goals as goal

pub try_pop_as-requires-clause-rule : goal.try_pop_as-requires-clause-rule
try_pop_as-requires-clause-rule g c = takes _ _ (subst (λ (v : Knowledge). Speaks v) (sym (ap (λ (l : GrantState). l.knows) c.grant.view_is)) c.requires.speaks)
