-- The rule of one box, over what it has and the views of its passes.
use Rattle.std.specs.Prelude.{◌≡◌, ℕ, ◌+◌, ◌<◌, ◌≤◌, true, false, ◌⊎◌, List, [], ◌∷◌, length, slice_index_or}
use mathlib.Core.Option.{some}
use lib.ListN.{get_elem?}
use Rattle.item_shards.specs.declared.shard.Shard.{Shard}
use Rattle.shard_boxes.specs.Lines.{Line, after_lines, after_put, put_by, line_put, lines_of, MayFollow, StartsWith}
use Rattle.shard_boxes.specs.{Passes.{start_of}, States.{ShardState, state_of, IsWithin}}
use Rattle.shard_boxes.specs.inner.Passing.{Speaks}
use Rattle.shard_boxes.specs.declared.shard_box.Knowledge.{Knowledge}

-- each line may follow those before it, and its worker has a key
abbrev pub AreLawful : ℕ → ShardState → List (ℕ × Line) → Type 0
AreLawful workers state [] = Unit {0}
AreLawful workers state (entry ∷ lines) =
    (put_by entry < workers) × MayFollow state (line_put entry)
    × AreLawful workers (after_put state entry) lines

-- the lines are lawful for a shard that was this one as the phase opened
pub record IsLawfulList (start : ShardState) (workers : ℕ) (lines : List (ℕ × Line)) : Type 0 where
  -- each line may follow those before it
  pub lawful : AreLawful workers start lines
  -- counts and ratings fit after the lines
  pub within : IsWithin (after_lines start lines)

-- each worker's lines in the view are the list's
abbrev pub HasParts : Knowledge → List (ℕ × Line) → Type 0
HasParts v list =
    (i : ℕ) → i < length v.own → slice_index_or v.own i [] ≡ lines_of (v.first + i) list

-- one box, as its rule sees it
pub record BoxState : Type 0 where
  -- its shard as the phase opened
  pub start : ShardState
  -- how many workers the phase has
  pub workers : ℕ
  -- all lines that were put, each with its worker
  pub list : List (ℕ × Line)
  -- the pass that has the shard while the box is empty
  pub holder : ℕ
  -- the pass that speaks for a worker
  pub seat : ℕ → ℕ

-- the pass may have the shard of the box
pub record IsHolder (box : BoxState) (pass : ℕ) (v : Knowledge) : Type 0 where
  -- no other pass has the shard
  pub only : pass ≡ box.holder
  -- the pass has seen all lines
  pub current : v.seen ≡ box.list
  -- the pass speaks for some worker
  pub speaks : Speaks v

-- the pass is of the phase of the box
pub record KnowsBox (box : BoxState) (pass : ℕ) (v : Knowledge) : Type 0 where
  -- the pass knows the shard as the phase opened
  pub start : start_of v ≡ box.start
  -- the pass knows how many workers the phase has
  pub workers : v.workers ≡ box.workers
  -- the list begins with the lines that the pass has seen
  pub prefix : StartsWith box.list v.seen
  -- the pass speaks for workers of the phase only
  pub known : v.first + length v.own ≤ box.workers
  -- no other pass speaks for these workers
  pub seats : (i : ℕ) → i < length v.own → box.seat (v.first + i) ≡ pass
  -- the pass knows every line that these workers put
  pub parts : HasParts v box.list

-- what a pass knows fits the box
pub record FitsBox (box : BoxState) (pass : ℕ) (v : Knowledge) : Type 0 where
  -- a pass that speaks for some worker is of the phase
  pub knows : Speaks v → KnowsBox box pass v
  -- a pass that has the shard is the holder
  pub holder : v.holds ≡ true → IsHolder box pass v

-- the shard is in the box, as the lines made it
pub record IsIn (box : BoxState) (items : List Shard) (views : List Knowledge) : Type 0 where
  -- what is in the box
  pub shard : Shard
  -- the box has no other shard
  pub one : items ≡ shard ∷ []
  -- the shard is the one with which the phase opened, after all lines
  pub state : state_of shard ≡ after_lines box.start box.list
  -- no pass has the shard
  pub free : (pass : ℕ) (v : Knowledge) → get_elem? views pass ≡ some v → v.holds ≡ false

-- the shard is with the holder
pub record IsOut (box : BoxState) (items : List Shard) (views : List Knowledge) : Type 0 where
  -- the box is empty
  pub none : items ≡ []
  -- what the holder knows
  pub view : Knowledge
  -- the view is the holder's
  pub at : get_elem? views box.holder ≡ some view
  -- the holder has the shard
  pub holds : view.holds ≡ true

-- the rule of a box, over the shards in it and the views of all passes
pub record BoxRule (items : List Shard) (views : List Knowledge) : Type 0 where
  -- the box
  pub box : BoxState
  -- the lines that were put into the box are lawful
  pub kept : IsLawfulList box.start box.workers box.list
  -- the shard is in the box or with the holder
  pub place : IsIn box items views ⊎ IsOut box items views
  -- what each pass knows fits the box
  pub fits : (pass : ℕ) (v : Knowledge) → get_elem? views pass ≡ some v → FitsBox box pass v
