-- What a run does to the book that it starts from.
use Rattle.std.specs.Prelude.{List}
use Rattle.auction_rows.specs.{Book.{Book}, History.{ReplaysFrom, book_after, IsBook}}
use Rattle.auction_rows.specs.declared.{values.Opening.Opening, rows.Entry.Entry}

-- the history replays from the book at the start to one for which the state stands
pub record HasReplayed (opening : Opening) (start : Book) (history : List Entry)
    (Stands : Book → Type 0) : Type 0 where
  -- the history replays from the book at the start
  pub replays : ReplaysFrom opening start history
  -- the state stands for the book at the end
  pub stands : Stands (book_after opening start history)

-- from each book for which the state before a closed phase stands, the phase replays to one for which the state after it stands
abbrev pub ReplaysOn : Opening → List Entry → (Book → Type 0) → (Book → Type 0) → Type 0
ReplaysOn opening segment Before After = (book : Book) → IsBook opening book → Before book →
    ReplaysFrom opening book segment × After (book_after opening book segment)
