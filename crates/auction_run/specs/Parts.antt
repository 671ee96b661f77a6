-- The parts of an auction's history, which one run after the other performs.
use Rattle.std.specs.Prelude.{◌≡◌, List, flat_map, fold}
use Rattle.auction_rows.specs.{Book.{Book}, History.{ReplaysFrom, book_after}}
use Rattle.auction_rows.specs.declared.{values.Opening.Opening, rows.Entry.Entry}
use Rattle.phase_floor.specs.States.{JoinedState, IsBookOf}
use Rattle.phase_laws.specs.Replay.{Replays}

-- the parts one after the other
abbrev pub history_of : List (List Entry) → List Entry
history_of parts = flat_map (λ part. part) parts

-- the book that parts leave, one after the other
abbrev pub book_after_parts : Opening → Book → List (List Entry) → Book
book_after_parts opening rows parts = fold (book_after opening) rows parts

-- each part replays from the book that those before it left
abbrev pub ArePartsFrom : Opening → Book → List (List Entry) → Type 0
ArePartsFrom opening rows parts = Replays (ReplaysFrom opening) (book_after opening) rows parts

-- These parts of an auction that was opened with these rows left this state.
pub record HaveLeft (opening : Opening) (rows : Book) (parts : List (List Entry))
    (state : JoinedState) : Type 0 where
  pub parts_are : ArePartsFrom opening rows parts
  pub opening_is : state.opening ≡ opening
  pub book : IsBookOf state (book_after_parts opening rows parts)
