-- What a key shows, of its grants.
use Rattle.std.specs.Prelude.{◌≡◌, ℕ, ◌<◌, List, [], map, length, slice_index_or}
use Rattle.shard_boxes.specs.{Keys.{BoxId, SeatState, KeyState}, Lines.{Line}}
use Rattle.shard_boxes.specs.{Passes.{start_of, GrantState}, States.{ShardState, state_at}}
use Rattle.shard_boxes.specs.declared.shard_box.Knowledge.{Knowledge}

-- the lines of the first worker for whom the pass speaks
abbrev pub own_of : Knowledge → List Line
own_of v = slice_index_or v.own 0 []

-- what a key shows of the shard of this grant
abbrev pub seat_of : GrantState → SeatState
seat_of l = record { holds = l.knows.holds; lines = own_of l.knows; seen = l.knows.seen }

-- the boxes that grants are for
abbrev pub boxes_of : List GrantState → List BoxId
boxes_of grants = map (λ (l : GrantState). l.box_id) grants

-- the key that is made of these grants
abbrev pub key_of : ℕ → List GrantState → KeyState
key_of worker grants = record {
  boxes = boxes_of grants;
  worker = worker;
  seats = map seat_of grants;
}

-- the grant is for the shard of this number, and speaks for so many workers from this one on
pub record IsFor (initial : List ShardState) (workers number first count : ℕ)
    (l : GrantState) : Type 0 where
  -- the phase opened with this shard
  pub start_is : start_of l.knows ≡ state_at initial number
  -- the phase has so many workers
  pub workers_are : l.knows.workers ≡ workers
  -- the first worker is this one
  pub from : l.knows.first ≡ first
  -- the workers are so many
  pub as_many : length l.knows.own ≡ count

-- one grant for each box, in order, which speaks for this worker only
abbrev pub AreFor : List ShardState → ℕ → List GrantState → ℕ → Type 0
AreFor initial workers grants worker =
    (s : ℕ) (d : GrantState) → s < length grants →
    IsFor initial workers s worker 1 (slice_index_or grants s d)
