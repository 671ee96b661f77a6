-- What a grant shows: the box that it is for, and what its pass knows.
use Rattle.std.specs.Prelude.{Option, Some, None}
use Rattle.item_shards.specs.declared.shard.Shard.{Shard}
use Rattle.shard_boxes.specs.{Keys.{BoxId}, States.{ShardState, state_of, no_shard}}
use Rattle.shard_boxes.specs.declared.shard_box.Knowledge.{Knowledge}

-- what a grant shows
pub record GrantState : Type 0 where
  -- the box that it is for
  pub box_id : BoxId
  -- what its pass knows
  pub knows : Knowledge

-- what a shard shows, if there is one
abbrev pub shown : Option Shard → ShardState
shown None = no_shard
shown (Some shard) = state_of shard

-- the shard as the phase opened, as the pass knows it
abbrev pub start_of : Knowledge → ShardState
start_of v = shown v.start
