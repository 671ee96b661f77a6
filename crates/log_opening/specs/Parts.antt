-- Rows that are added to an auction while the text of a log is read.
use Rattle.std.specs.Prelude.{◌≡◌, ◌≢◌, ◌≤◌, ◌<◌, ◌++◌, ℕ, true, List, ◌∷◌, All, Some, fold, length, slice_index, take}
use Rattle.phase_laws.specs.Replay.{Replays}
use Rattle.auction_rows.specs.{Book.{Book}, Refusals.{refusal}, Requests.{is_view}}
use Rattle.auction_rows.specs.declared.{values.Opening.Opening, requests.Opened.Opened}
use Rattle.item_shards.specs.OpeningRows.{IsRow, rows_by, with_opened}
use Rattle.phase_floor.specs.{Adding.{IsStartOf}, States.{JoinedState}}
use Rattle.phase_floor.specs.declared.adding.AddFault.{AddFault}
use Rattle.phase_floor.specs.declared.adding.AddFault.TheVariants as add
use Rattle.log_opening.specs.ReadBack.{IsInRange}

-- requests are rows from a book on, each at its place
abbrev pub AreRowsFrom : Opening → Book → List Opened → Type 0
AreRowsFrom opening = Replays (IsRow opening) (with_opened opening)

-- the book that they leave
abbrev pub rows_from : Opening → Book → List Opened → Book
rows_from opening = fold (with_opened opening)

-- ---- what is added

-- Rows were added to an auction that was a start of a book.
pub record HasAdded (old new : JoinedState) (book : Book) (all : List Opened) (added : Book)
    : Type 0 where
  pub are_rows : AreRowsFrom old.opening book all
  pub rows_are : rows_from old.opening book all ≡ book ++ added
  pub start : IsStartOf new (book ++ added)
  pub in_range : All IsInRange added

-- of rows that were to be added to an auction that was a start of a book, just those before a place
-- were
abbrev pub HasAddedFirst : JoinedState → JoinedState → Book → List Opened → ℕ → Type 0
HasAddedFirst old new book all place =
    (added : Book) × HasAdded old new book (take place all) added

-- a request is not taken after a book, by this fault, where each worker may commit so many
abbrev pub IsNotTaken : ℕ → AddFault → ℕ → Opening → Book → Opened → Type 0
IsNotTaken limit add.TooLong workers opening book opened = limit ≤ rows_by book opened.worker
IsNotTaken limit (add.Refused reason) workers opening book opened =
    (opened.worker < workers) × (refusal opening book opened.request ≡ Some reason)
IsNotTaken limit add.BadRow workers opening book opened =
    opened.worker < workers → is_view opened.request ≡ true
IsNotTaken limit add.Memory workers opening book opened = Unit {0}

-- Of requests after a book, the one at this place is the first that is not taken.
pub record IsFirstRefused (limit : ℕ) (fault : AddFault) (workers : ℕ) (opening : Opening)
    (book : Book) (all : List Opened) (place : ℕ) : Type 0 where
  -- those before it
  pub good : List Opened
  -- it
  pub bad : Opened
  -- those behind it
  pub rest : List Opened
  pub split : all ≡ good ++ bad ∷ rest
  pub place_is : place ≡ length good
  pub are_rows : AreRowsFrom opening book good
  pub not_taken : IsNotTaken limit fault workers opening (rows_from opening book good) bad

-- no line ends in a text
abbrev pub HasNoEnd : List ℕ → Type 0
HasNoEnd text = (i : ℕ) → i < length text → slice_index text i ≢ 10
