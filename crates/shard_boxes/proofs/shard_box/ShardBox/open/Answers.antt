use Rattle.std.proofs.Common.{sym, ap, subst}
use Rattle.shard_boxes.proofs.BoxSteps.{opens, learns_empty}
use Rattle.shard_boxes.specs.Passes.{GrantState}
use Rattle.shard_boxes.specs.inner.Passing.{IsSpare}
use Rattle.shard_boxes.proofs.shard_box.ShardBox.open.Goals as goal

pub push_as-requires-clause-rule : goal.push_as-requires-clause-rule
push_as-requires-clause-rule g c =
    let spare = subst IsSpare (sym (ap (λ (l : GrantState). l.knows) c.grant.view_is)) c.requires.spare in
    (opens _ _ _ _ _ spare c.requires.within, learns_empty _ _ spare.1)
