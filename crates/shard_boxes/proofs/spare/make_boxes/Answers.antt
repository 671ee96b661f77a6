use Rattle.std.proofs.Common.{◌+◌, length, le_antisymm, sym, ap, ◌∙◌}
use Rattle.shard_boxes.proofs.{Each.{none_below}, GrantLemmas.{spare_more}}
use Rattle.shard_boxes.specs.Seats.{boxes_of}
use Rattle.shard_boxes.proofs.spare.make_boxes.Goals as goal

pub loop-init : goal.loop-init
loop-init c = (
  c.new-boxes.ensures.len,
  (ap boxes_of c.new-grants.ensures.items ∙ sym c.new-boxes.ensures.items, λ s d low. none_below s (length c.new-grants.result.items) (ap length c.new-grants.ensures.items) low),
)

pub loop-preserved : goal.loop-preserved
loop-preserved c = (
  c.in_ok-push.ensures.len ∙ ap (λ n. n + 1) c.loop.invariant.0,
  spare_more c.loop.boxes.items c.push.new.self.items c.loop.grants.items c.push-in-loop.new.self.items c.in_ok-shard_box.shard_box c.in_ok-shard_box.grant
      c.loop.invariant.1 c.in_ok-push.ensures.items c.in_ok-push-2.ensures.items c.in_ok-shard_box.ensures.0 c.in_ok-shard_box.ensures.1,
)

pub returns : goal.returns
returns c = record { len = c.loop.invariant.0 ∙ le_antisymm c.loop.auto.counter-end c.loop-test.false; spare = c.loop.invariant.1 }
