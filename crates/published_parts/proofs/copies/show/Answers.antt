use Rattle.published_parts.proofs.CopyLemmas.{shown-last}
use Rattle.published_parts.proofs.copies.show.Goals as goal

pub returns-in-Ok-clause-shown : goal.returns-in-Ok-clause-shown
returns-in-Ok-clause-shown g c =
    shown-last g.T.Absorb.applied _ _ c.publish_as.result.1 _ _ _ _ _ c.publish_as.ensures.values c.in-Ok.ensures.pending
