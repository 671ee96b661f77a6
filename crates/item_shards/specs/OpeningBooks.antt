-- A book that an auction is opened with, as contracts see it.
use Rattle.auction_rows.specs.{Book.{Book}, declared.values.Opening.{Opening}}
use Rattle.item_shards.specs.{OpeningRows.{rows_in}, declared.openings.OpeningBook.{OpeningBook}}

-- the users and categories of the auction
abbrev pub opening_of : OpeningBook → Opening
opening_of book = book.opening

-- the rows, in commit order
abbrev pub rows_of_book : OpeningBook → Book
rows_of_book book = rows_in book.rows
