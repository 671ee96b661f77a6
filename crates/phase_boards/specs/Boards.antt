-- The book of some phases, and what a board can be given next.
use Rattle.std.specs.Prelude.{List, ◌++◌, fold}
use Rattle.auction_rows.specs.Book.{Book}
use Rattle.auction_rows.specs.declared.{values.Opening.Opening, rows.Row.Row}
use Rattle.item_shards.specs.Serial.{CanFollow}

-- the book of these rows and of those of all phases, in order
abbrev pub book_of : Book → List (List Row) → Book
book_of rows phases = fold ◌++◌ rows phases

-- A board can take these rows as its next phase: they follow the book of the phases that it has.
pub record CanShow {B : Type 0} (has : B → Opening → Book → List (List Row) → Type 0)
    (board : B) (last : List Row) : Type 0 where
  pub opening : Opening
  pub rows : Book
  pub phases : List (List Row)
  pub has_them : has board opening rows phases
  pub follow : CanFollow opening (book_of rows phases) last
