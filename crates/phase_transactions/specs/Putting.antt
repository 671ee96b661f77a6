-- A shard that is put back with a line, and what a key has seen of it.
use Rattle.std.specs.Prelude.{◌≡◌, ℕ, if◌then◌else◌, Bool, true, false, List, [], ◌∷◌, ◌++◌, length}
use Rattle.shard_boxes.specs.{Helds.{taken_at}, Keys.{KeyState, seat_at, seen_at, lines_at}}
use Rattle.shard_boxes.specs.Lines.{Line, after_lines, MayFollow, StartsWith}
use Rattle.shard_boxes.specs.States.{ShardState, state_at}
use Rattle.phase_transactions.specs.Workers.{IsIdle}

-- the clock of a shard as the key has last seen it
abbrev pub clock_seen : List ShardState → KeyState → ℕ → ℕ
clock_seen initial key shard = (taken_at initial key shard).clock

-- what the key has seen of each shard goes on from what it had seen
abbrev pub KeepsSeen : KeyState → KeyState → Type 0
KeepsSeen old new = (shard : ℕ) → StartsWith (seen_at new shard) (seen_at old shard)

-- A shard was taken as this list left it, which goes on from what the key had seen of it, and put
-- back with the line, which may follow it.
pub record HasPut (initial : List ShardState) (old new : KeyState) (shard : ℕ)
    (line : Line) : Type 0 where
  pub found : List (ℕ × Line)
  pub later : StartsWith found (seen_at old shard)
  pub seen : seen_at new shard ≡ found ++ (new.worker, line) ∷ []
  pub follows : MayFollow (after_lines (state_at initial shard) found) line

-- the key is for the same boxes and of the same worker, with as many seats, no line was put by it,
-- and what it has seen goes on
pub record HasSameLines (old new : KeyState) : Type 0 where
  pub boxes : new.boxes ≡ old.boxes
  pub worker : new.worker ≡ old.worker
  pub seats : length new.seats ≡ length old.seats
  pub lines : (shard : ℕ) → lines_at new shard ≡ lines_at old shard
  pub seen : KeepsSeen old new

-- The shards that were taken were put back, each with the line that it was owed, and no other one
-- was taken.
pub record HasPutAll (initial : List ShardState) (old new : KeyState) (took : ℕ → Bool)
    (owed : ℕ → Line) : Type 0 where
  pub lines : (t : ℕ) →
      lines_at new t ≡ (if took t then lines_at old t ++ owed t ∷ [] else lines_at old t)
  pub puts : (t : ℕ) → took t ≡ true → HasPut initial old new t (owed t)
  pub others : (t : ℕ) → took t ≡ false → seat_at new t ≡ seat_at old t
  pub seen : KeepsSeen old new
  pub idle : IsIdle new
  pub worker : new.worker ≡ old.worker
  pub boxes : new.boxes ≡ old.boxes
  pub seats : length new.seats ≡ length old.seats
