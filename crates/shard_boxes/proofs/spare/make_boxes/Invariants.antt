use Rattle.std.proofs.Common.{◌≡◌, vec_len}
use Rattle.shard_boxes.specs.inner.Grants.{AreSpare}
use Rattle.shard_boxes.proofs.spare.make_boxes.Given as goal

abbrev pub invariant-loop : goal.invariant-loop
invariant-loop l = (vec_len l.boxes ≡ l.counter) × AreSpare l.boxes.items l.grants.items
