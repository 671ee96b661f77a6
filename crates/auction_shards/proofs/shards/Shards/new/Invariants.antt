use Rattle.std.proofs.Common.{◌≡◌, map, vec_len}
use Rattle.shard_boxes.specs.States.{state_of}
use Rattle.auction_shards.specs.Making.{AreBlank}
use Rattle.auction_shards.proofs.shards.Shards.new.Given as goal

abbrev pub invariant-loop-number : goal.invariant-loop-number
invariant-loop-number l = record { len : vec_len l.shards ≡ l.number; blank : AreBlank l.opening l.count l.number (map state_of l.shards.items) }
