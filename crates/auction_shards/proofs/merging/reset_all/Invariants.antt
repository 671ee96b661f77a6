use Rattle.std.proofs.Common.{◌≡◌, ◌++◌, map, take, drop, vec_len}
use Rattle.shard_boxes.specs.States.{state_of}
use Rattle.auction_shards.specs.Shards.{at_start}
use Rattle.auction_shards.proofs.merging.reset_all.Given as goal

abbrev pub invariant-loop-s : goal.invariant-loop-s
invariant-loop-s l =
    (vec_len l.shards ≡ vec_len l.initial.shards)
    × (map state_of l.shards.items ≡ map at_start (take l.s (map state_of l.initial.shards.items)) ++ drop l.s (map state_of l.initial.shards.items))
