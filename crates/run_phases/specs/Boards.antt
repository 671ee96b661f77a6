-- The phases of a run that a board was given.
use Rattle.std.specs.Prelude.{ℕ, zero, suc, ◌≡◌, ◌≤◌, List, [], ◌∷◌, ◌++◌}
use Rattle.auction_rows.specs.{Book.{Book}, History.{rows_of}}
use Rattle.auction_rows.specs.declared.limits.TheConstants.{MOST_OF_A_WORKER}
use Rattle.auction_rows.specs.declared.{values.Opening.Opening, rows.Row.Row, rows.Entry.Entry}
use Rattle.phase_boards.specs.Boards.{book_of}
use Rattle.phase_floor.specs.States.{JoinedState, IsBookOf}
use Rattle.run_laws.specs.Serving.{segment_of}

-- the book rows of the first phases of a history, phase by phase
abbrev pub phase_rows : ℕ → List Entry → List (List Row)
phase_rows zero history = []
phase_rows (suc n) history = phase_rows n history ++ rows_of (segment_of n history) ∷ []

-- A board that had these phases before a run has those of the run so far after them.
pub record HasShownAfter {B : Type 0} (has : B → Opening → Book → List (List Row) → Type 0)
    (opening : Opening) (rows : Book) (before : List (List Row)) (phase : ℕ) (history : List Entry)
    (board : B) : Type 0 where
  -- it has the phases before and those of the run
  pub has_them : has board opening rows (before ++ phase_rows phase history)
  -- their rows are those before and the history's
  pub book_is : book_of rows (before ++ phase_rows phase history)
      ≡ book_of rows before ++ rows_of history

-- A board has the phases of a run so far.
abbrev pub HasShown : {B : Type 0} → (B → Opening → Book → List (List Row) → Type 0) →
    Opening → Book → ℕ → List Entry → B → Type 0
HasShown has opening rows phase history board =
    HasShownAfter has opening rows [] phase history board

-- A board is up to date with a state: what is stored after its phases is a book of the state. It is
-- not a lasting state, since a board's book has at most 16,000,000 rows.
pub record IsUpToDate {B : Type 0} (has : B → Opening → Book → List (List Row) → Type 0)
    (board : B) (state : JoinedState) : Type 0 where
  pub rows : Book
  pub phases : List (List Row)
  pub has_them : has board state.opening rows phases
  pub book : IsBookOf state (book_of rows phases)
  pub few : state.limit ≤ MOST_OF_A_WORKER
