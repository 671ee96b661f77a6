use Rattle.std.proofs.Common.{◌∙◌}
use Rattle.shard_boxes.proofs.boxes.Boxes.shards.Goals as goal

pub returns-clause-count : goal.returns-clause-count
returns-clause-count g c = c.len.ensures ∙ c.self.invariant.0
