use Rattle.std.proofs.{Common.{[], ◌∷◌, ◌++◌, ◌∙◌}, lemmas.List.{replicate_more}}
use Rattle.item_shards.proofs.shard.identities.Goals as goal

pub loop-made-preserved : goal.loop-made-preserved
loop-made-preserved g c =
    c.in_ok-push.ensures.items
    ∙ (λ i. c.loop-made.invariant i ++ c.identity.ensures i ∷ [])
    ∙ replicate_more c.loop-made._made g.R.Splittable.empty
