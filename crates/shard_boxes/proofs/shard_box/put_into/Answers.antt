use Rattle.shard_boxes.proofs.BoxSteps.{puts, learns_empty}
use Rattle.shard_boxes.proofs.shard_box.put_into.Goals as goal

pub push_as-requires-clause-rule : goal.push_as-requires-clause-rule
push_as-requires-clause-rule g c = (puts _ _ _ _ _ c.requires.holds c.requires.may, learns_empty _ _ c.requires.holds)
