-- What closed boxes give.
use Rattle.std.specs.Prelude.{◌≡◌, ℕ, ◌<◌, ◌≤◌, List, length, false}
use Rattle.shard_boxes.specs.Helds.{taken_at}
use Rattle.shard_boxes.specs.Keys.{BoxId, KeyState, key_at, lines_at, holds_at}
use Rattle.shard_boxes.specs.{Lines.{Line, IsShardHistory, lines_of}, States.{ShardState, state_at}}

-- the key is this worker's, to these boxes, and holds no shard: it may be given back
pub record IsSpent (boxes : List BoxId) (worker : ℕ) (key : KeyState) : Type 0 where
  -- the key is to these boxes
  pub boxes_are : key.boxes ≡ boxes
  -- the key is this worker's
  pub worker_is : key.worker ≡ worker
  -- the key holds no shard
  pub idle : (s : ℕ) → holds_at key s ≡ false

-- a key of each worker that may be given back, in order
abbrev pub AreSpent : List BoxId → ℕ → List KeyState → Type 0
AreSpent boxes workers keys =
    (length keys ≡ workers) × ((w : ℕ) → w < workers → IsSpent boxes w (key_at keys w))

-- the box of this number gives the shard with which the phase opened, after some lines
pub record IsClosedBox (initial : List ShardState) (workers : ℕ) (keys : List KeyState) (s : ℕ)
    (state : ShardState) : Type 0 where
  -- all lines that were put
  pub lines : List (ℕ × Line)
  -- the shard is the initial one after them
  pub history : IsShardHistory initial workers s lines state
  -- each worker's lines are those of its key
  pub own : (w : ℕ) → w < workers → lines_of w lines ≡ lines_at (key_at keys w) s
  -- no key has seen a greater clock of the shard
  pub seen : (w : ℕ) → w < workers → (taken_at initial (key_at keys w) s).clock ≤ state.clock

-- closed boxes give a shard each, in order
abbrev pub AreClosed : List ShardState → ℕ → List KeyState → List ShardState → Type 0
AreClosed initial workers keys states =
    (length states ≡ length initial)
    × ((s : ℕ) → s < length initial → IsClosedBox initial workers keys s (state_at states s))
