-- A shard that is held, and the acts that are done on it.
use Rattle.std.specs.Prelude.{ℕ, List, [], ◌∷◌}
use Rattle.item_shards.specs.declared.shard.acts.Act.{TheVariants.{Look}, Act}
use Rattle.item_shards.specs.declared.shard.acts.Look.TheVariants as look
use Rattle.shard_boxes.specs.{Helds.{HeldState}, Keys.{KeyState, seen_at}}
use Rattle.shard_boxes.specs.Lines.{IsShardHistory}
use Rattle.shard_boxes.specs.States.{ShardState, state_of}

-- two acts in turn
abbrev pub two_acts : Act × Act → List Act
two_acts acts = acts.0 ∷ acts.1 ∷ []

-- one act, and a look at nothing
abbrev pub alone_in : Act → List Act
alone_in act = act ∷ Look look.Nothing ∷ []

-- a shard as the key took it
abbrev pub IsAsTaken : List ShardState → ℕ → KeyState → HeldState → Type 0
IsAsTaken initial workers key held =
    IsShardHistory initial workers held.number (seen_at key held.number) (state_of held.shard)
