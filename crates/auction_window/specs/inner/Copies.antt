-- What a copy of the auction has, and what it takes in.
use Rattle.std.specs.Prelude.{◌≡◌, List, [], ◌∷◌, ◌++◌, Option, IfSome}
use Rattle.auction_rows.specs.Book.{Book}
use Rattle.auction_rows.specs.declared.{values.Opening.Opening, rows.Row.Row}
use Rattle.item_shards.specs.Serial.{HoldsBook, CanFollow, serial_opening}
use Rattle.item_shards.specs.declared.serial.SerialAuction.{SerialAuction}
use Rattle.phase_boards.specs.Boards.{book_of}

-- an auction, where there is one, has the rows of these phases after those of the book
abbrev pub HasPhases : Opening → Book → Option SerialAuction → List (List Row) → Type 0
HasPhases opening rows auction phases =
    IfSome auction (λ held. (serial_opening held ≡ opening) × HoldsBook held (book_of rows phases))

-- these rows are the last of the phases
pub record IsLastPhase (opening : Opening) (rows : Book) (last : List Row) (phases : List (List Row)) : Type 0 where
  -- the phases before it
  pub before : List (List Row)
  pub phases_are : phases ≡ before ++ last ∷ []
  -- the rows can be stored after the book of those
  pub follow : CanFollow opening (book_of rows before) last
