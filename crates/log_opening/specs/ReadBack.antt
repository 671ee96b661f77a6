-- The rows of a log, as they are read back.
use Rattle.std.specs.{List.{range_with_len}, Prelude.{◌<◌, ◌≤◌, ◌^◌, ℕ, [], map}}
use Rattle.auction_rows.specs.{Book.{Book, worker_of}, Name.{IsName}}
use Rattle.auction_rows.specs.declared.limits.TheConstants.{MOST_QUANTITY}
use Rattle.auction_rows.specs.declared.rows.Row.TheVariants.{Item, Bid, Comment, Buy}
use Rattle.auction_rows.specs.declared.rows.{ItemRow.ItemRow, BidRow.BidRow, CommentRow.CommentRow, BuyRow.BuyRow, Row.Row}
use Rattle.item_shards.specs.OpeningRows.{opened_of}
use Rattle.auction_text.specs.Scripts.{Asked}

-- The fields of a row of each kind are in the ranges of their types. Its own serial is not written.
pub record IsBidInRange (row : BidRow) : Type 0 where
  pub bidder : row.bidder < 2 ^ 32
  pub item_worker : row.item.worker < 2 ^ 32
  pub item_serial : row.item.serial < 2 ^ 32
  pub amount : row.amount < 2 ^ 64
  pub time : row.time < 2 ^ 64

pub record IsCommentInRange (row : CommentRow) : Type 0 where
  pub author : row.author < 2 ^ 32
  pub about : row.about < 2 ^ 32
  pub item_worker : row.item.worker < 2 ^ 32
  pub item_serial : row.item.serial < 2 ^ 32

pub record IsBuyInRange (row : BuyRow) : Type 0 where
  pub buyer : row.buyer < 2 ^ 32
  pub item_worker : row.item.worker < 2 ^ 32
  pub item_serial : row.item.serial < 2 ^ 32
  pub some : 1 ≤ row.quantity
  pub few : row.quantity ≤ MOST_QUANTITY
  pub time : row.time < 2 ^ 64

pub record IsItemInRange (row : ItemRow) : Type 0 where
  pub seller : row.facts.seller < 2 ^ 32
  pub category : row.facts.category < 2 ^ 32
  pub name : IsName row.facts.name
  pub some : 1 ≤ row.facts.quantity
  pub few : row.facts.quantity ≤ MOST_QUANTITY
  pub start : row.facts.start < 2 ^ 64
  pub closes : row.facts.closes < 2 ^ 64
  pub time : row.time < 2 ^ 64

-- the fields of a row are in the ranges of their types
abbrev pub IsInRange : Row → Type 0
IsInRange (Item row) = IsItemInRange row
IsInRange (Bid row) = IsBidInRange row
IsInRange (Comment row) = IsCommentInRange row
IsInRange (Buy row) = IsBuyInRange row

-- a row that is written: of one of so many workers, with fields in the ranges of their types
abbrev pub IsWritten : ℕ → Row → Type 0
IsWritten workers row = (worker_of row < workers) × IsInRange row

-- the rows of a book, and no request of so many workers
abbrev pub book_asked : ℕ → Book → Asked
book_asked workers book = record {
  rows = map opened_of book;
  scripts = map (λ worker. []) (range_with_len 0 workers);
}
