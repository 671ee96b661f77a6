use Rattle.std.proofs.Common.{List, map, sym, subst}
use Rattle.item_shards.specs.{Writing.{writes_of}, declared.shard.Shard.{Shard}}
use Rattle.shard_boxes.specs.States.{state_of}
use Rattle.auction_shards.{proofs.Acts.{still_of_one}, specs.Shards.{AreOfOne}}
use Rattle.auction_shards.specs.Writing.{CanWriteOn, HaveDone}
use Rattle.auction_shards.proofs.shards.Shards.write.Goals as goal

pub write_row-requires-clause-can : goal.write_row-requires-clause-can
write_row-requires-clause-can c = subst (λ (shards : List Shard). CanWriteOn (map state_of shards) c.args.row.now) (sym c.self.view_is) c.requires

pub invariant_of-self : goal.invariant_of-self
invariant_of-self c = subst AreOfOne (sym c.in_err-write_row.ensures.same) c.self.invariant

pub invariant_of-self-2 : goal.invariant_of-self-2
invariant_of-self-2 c = still_of_one (map state_of c.self.inside.shards.items) (map state_of c.write_row.new.shards.items) (writes_of c.args.row.now) c.self.invariant c.in_ok-write_row.ensures.done

pub returns-clause-done : goal.returns-clause-done
returns-clause-done c = subst (λ (shards : List Shard). HaveDone (map state_of shards) (map state_of c.write_row.new.shards.items) (writes_of c.args.row.now)) c.self.view_is c.in_ok-write_row.ensures.done
