-- One grant for each box, as the boxes are opened and closed.
use Rattle.std.specs.Prelude.{◌≡◌, ℕ, ◌+◌, ◌<◌, ◌≤◌, false, List, [], length, slice_index_or}
use Rattle.shard_boxes.specs.{Keys.{BoxId}, Lines.{Line, IsShardHistory, after_lines, lines_of}}
use Rattle.shard_boxes.specs.{Passes.{start_of, GrantState}, Seats.{boxes_of}}
use Rattle.shard_boxes.specs.inner.Passing.{Speaks, IsSpare}
use Rattle.shard_boxes.specs.States.{ShardState, state_at}
use Rattle.shard_boxes.specs.{declared.shard_box.Knowledge.{Knowledge}, inner.Steps.{ready}}

-- two grants can be united, the second for the workers that follow those of the first
pub record CanUnite (box : BoxId) (grant other : GrantState) : Type 0 where
  -- both grants are to the box
  pub place : (grant.box_id ≡ box) × (other.box_id ≡ box)
  -- each speaks for a worker
  pub speaks : Speaks grant.knows × Speaks other.knows
  -- neither grant holds the shard
  pub free : (grant.knows.holds ≡ false) × (other.knows.holds ≡ false)
  -- the second grant goes on with the worker after those of the first
  pub next : other.knows.first ≡ grant.knows.first + length grant.knows.own

-- what the grant of this box knows
abbrev pub knows_at : List GrantState → ℕ → GrantState → Knowledge
knows_at grants s d = (slice_index_or grants s d).knows

-- a grant for each box, by which it can open for another phase
abbrev pub AreSpare : List BoxId → List GrantState → Type 0
AreSpare boxes grants =
    (boxes_of grants ≡ boxes)
    × ((s : ℕ) (d : GrantState) → s < length grants → IsSpare (knows_at grants s d))

-- a view for so many workers from this one on, who have done nothing, of a phase of so many workers
pub record IsNewView (start : ShardState) (workers first count : ℕ) (v : Knowledge) : Type 0 where
  -- the phase opened with this shard
  pub start_is : start_of v ≡ start
  -- its workers have done nothing
  pub unused : v ≡ ready v.start workers first count

-- a grant for each box, for so many workers from this one on, who have done nothing
abbrev pub AreNewGrants : List ShardState → ℕ → List BoxId → ℕ → ℕ → List GrantState → Type 0
AreNewGrants initial workers boxes first count grants =
    (boxes_of grants ≡ boxes)
    × ((s : ℕ) (d : GrantState) → s < length grants →
    IsNewView (state_at initial s) workers first count (knows_at grants s d))

-- the view is for workers from this one on, and does not hold the shard
pub record IsFree (start : ShardState) (workers first : ℕ) (v : Knowledge) : Type 0 where
  -- the phase opened with this shard
  pub start_is : start_of v ≡ start
  -- the phase has so many workers
  pub workers_are : v.workers ≡ workers
  -- the view's first worker is this one
  pub from : v.first ≡ first
  -- the view speaks for some worker
  pub speaks : Speaks v
  -- the view does not hold the shard
  pub free : v.holds ≡ false

-- a grant for each box, for workers from this one on, and none holds a shard
abbrev pub AreFree : List ShardState → ℕ → List BoxId → ℕ → List GrantState → Type 0
AreFree initial workers boxes first grants =
    (boxes_of grants ≡ boxes)
    × ((s : ℕ) (d : GrantState) → s < length grants →
    IsFree (state_at initial s) workers first (knows_at grants s d))

-- the lines of each worker for whom the grant of this box speaks
abbrev pub own_at : List GrantState → ℕ → GrantState → List (List Line)
own_at grants s d = (knows_at grants s d).own

-- the clock of the shard, as the pass has seen it
abbrev pub clock_seen : Knowledge → ℕ
clock_seen v = (after_lines (start_of v) v.seen).clock

-- the clock of the shard of this box, as its grant has seen it
abbrev pub clock_at : List GrantState → ℕ → GrantState → ℕ
clock_at grants s d = clock_seen (knows_at grants s d)

-- the shard is the initial one of this number after some lines, of which each worker's are these,
-- and its clock is no less than this one
abbrev pub IsTaken : List ShardState → ℕ → List (List Line) → ℕ → ℕ → ShardState → Type 0
IsTaken initial workers own seen s state =
    (lines : List (ℕ × Line)) × IsShardHistory initial workers s lines state
    × ((w : ℕ) → w < workers → lines_of w lines ≡ slice_index_or own w [])
    × (seen ≤ state.clock)

-- the box of this number is this one
abbrev pub IsBoxAt : List BoxId → ℕ → BoxId → Type 0
IsBoxAt boxes s place = place ≡ slice_index_or boxes s place
