use Rattle.std.proofs.Common.{length, sym, ap, ◌∙◌}
use Rattle.shard_boxes.{proofs.Each.{none_below}, specs.Seats.{boxes_of}}
use Rattle.shard_boxes.proofs.spare.Spare.none.Goals as goal

pub invariant_of-result : goal.invariant_of-result
invariant_of-result c = (
  ap boxes_of c.new-grants.ensures.items ∙ sym c.new-boxes.ensures.items,
  λ s d low. none_below s (length c.new-grants.result.items) (ap length c.new-grants.ensures.items) low,
)
