-- The auction of one thread: what it holds, and which rows it can store.
use Rattle.std.specs.Prelude.{ℕ, ◌≡◌, ◌<◌, ◌≤◌, ◌+◌, List, [], ◌∷◌, ◌++◌, Some, slice_get, length, take, All}
use Rattle.auction_rows.specs.{Book.{Book}, History.{GoOn, IsBook}}
use Rattle.auction_rows.specs.declared.limits.TheConstants.{MOST_ROWS, MOST_WORKERS}
use Rattle.auction_rows.specs.declared.{values.Opening.Opening, rows.Row.Row}
use Rattle.item_shards.specs.{Counting.{stored_by, worker_of}, Limits.{IsWithinLimits}}
use Rattle.item_shards.specs.ShardContents.{opening, ShardStandsFor}
use Rattle.item_shards.specs.declared.serial.SerialAuction.{SerialAuction}

-- the users and categories of the auction
abbrev pub serial_opening : SerialAuction → Opening
serial_opening auction = opening auction.shard

-- what the auction keeps is what a book within limits says
pub record HoldsBook (auction : SerialAuction) (book : Book) : Type 0 where
  -- the auction's shard stands for the book, with nothing hot
  pub records : ShardStandsFor auction.shard book []
  -- the auction's counts are those of each worker's stores
  pub counts : (worker : ℕ) → worker < MOST_WORKERS →
      slice_get auction.stored worker ≡ Some (stored_by book worker)
  -- the book is within limits
  pub limits : IsWithinLimits book

-- a book of fewer rows than an auction may have
abbrev pub IsNotFull : Book → Type 0
IsNotFull book = length book < MOST_ROWS

-- the auction holds some book that is not full
pub record CanGrow (auction : SerialAuction) : Type 0 where
  -- the auction holds this book
  pub book : Book
  pub holds : HoldsBook auction book
  -- the book is not full
  pub not_full : IsNotFull book

-- a row of one of 16 workers that goes on a book which the auction holds and which is not full
pub record CanStore (auction : SerialAuction) (row : Row) : Type 0 where
  -- the auction holds this book
  pub book : Book
  pub holds : HoldsBook auction book
  -- the book is not full
  pub not_full : IsNotFull book
  -- the row goes on the book
  pub goes_on : GoOn (serial_opening auction) book (row ∷ [])
  -- the row's worker is one of 16
  pub worker : worker_of row < MOST_WORKERS

-- rows that can be stored after a book
pub record CanFollow (start : Opening) (book : Book) (rows : List Row) : Type 0 where
  -- each is what an accepted request adds at its place
  pub is_book : IsBook start (book ++ rows)
  -- each is of one of 16 workers
  pub workers : All (λ row. worker_of row < MOST_WORKERS) rows
  -- the rows are no more than an auction may have
  pub few : length book + length rows ≤ MOST_ROWS

-- rows that follow some book which the auction holds
pub record CanAdd (auction : SerialAuction) (rows : List Row) : Type 0 where
  -- the auction holds this book
  pub book : Book
  pub holds : HoldsBook auction book
  -- the rows can be stored after it
  pub follow : CanFollow (serial_opening auction) book rows

-- the auction holds a book and then the first so many of these rows
pub record HoldsFirst (auction : SerialAuction) (book : Book) (rows : List Row) : Type 0 where
  -- how many of the rows are held
  pub count : ℕ
  -- the auction holds the book and these rows
  pub holds : HoldsBook auction (book ++ take count rows)
