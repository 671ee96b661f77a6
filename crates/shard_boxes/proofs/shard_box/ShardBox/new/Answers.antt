use Rattle.shard_boxes.proofs.BoxSteps.{begins}
use Rattle.shard_boxes.proofs.shard_box.ShardBox.new.Goals as goal

pub ruled-requires-clause-rule : goal.ruled-requires-clause-rule
ruled-requires-clause-rule c = begins
