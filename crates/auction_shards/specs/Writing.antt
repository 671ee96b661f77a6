-- Rows that are written on the shards of one auction.
use Rattle.std.specs.{List.{AllByRecursion}, Prelude.{◌≡◌, ℕ, ◌<◌, true, List, [], length}}
use Rattle.auction_rows.specs.declared.rows.Row.{Row}
use Rattle.item_shards.specs.{Acting.{CanActOn}, Contents.{after_acts}, Events.{Event}}
use Rattle.item_shards.specs.Writing.{writes_of, is_done_on, done_on}
use Rattle.shard_boxes.specs.States.{ShardState, state_at}

-- each act that writes a row can be done on the shard where its object lies, once there is room for
-- the item that it adds
abbrev pub CanWriteOn : List ShardState → Row → Type 0
CanWriteOn states row = (s : ℕ) → s < length states →
    AllByRecursion (λ act. is_done_on s (length states) [] act ≡ true →
    CanActOn (state_at states s).opening s (length states) (λ id. true)
    (state_at states s).contents act) (writes_of row)

-- a shard after those of the acts that are about its objects
abbrev pub with_acts : ℕ → List Event → ShardState → ShardState
with_acts shards acts state =
    record state { contents = after_acts state.contents (done_on state.number shards [] acts) }

-- each of the shards is what the acts on its objects make of it
pub record HaveDone (old new : List ShardState) (acts : List Event) : Type 0 where
  pub len : length new ≡ length old
  pub each : (s : ℕ) → s < length old →
      state_at new s ≡ with_acts (length old) acts (state_at old s)
