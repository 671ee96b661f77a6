-- What a log opens of which a crash left a prefix.
use Rattle.std.specs.Prelude.{◌≡◌, ◌≤◌, ℕ, [], Ok, length, take}
use Rattle.auction_rows.specs.{Book.{Book}, declared.values.Opening.{Opening}}
use Rattle.item_shards.specs.OpeningRows.{AreRows, opening_rows}
use Rattle.auction_text.specs.{RowLines.{rows_text}, Scripts.{input_of}}
use Rattle.log_opening.specs.ReadBack.{book_asked}

-- The first n bytes of a book's text, of which so many are whole lines, open to the first rows of
-- the book, and to all those whose lines are there.
pub record OpensTo (opening : Opening) (workers : ℕ) (book : Book) (n whole : ℕ) : Type 0 where
  -- so many of the rows
  pub count : ℕ
  pub within : count ≤ length book
  -- the whole lines are the text of these rows, and ask for them
  pub text : take whole (take n (rows_text book [])) ≡ rows_text (take count book) []
  pub read : input_of workers (take whole (take n (rows_text book [])))
      ≡ Ok (book_asked workers (take count book))
  -- they open the auction with just these rows
  pub are_rows : AreRows opening (book_asked workers (take count book)).rows
  pub opens : opening_rows opening (book_asked workers (take count book)).rows ≡ take count book
  -- rows whose text is within the n bytes are among them
  pub begins : (accepted : ℕ) → accepted ≤ length book →
      length (rows_text (take accepted book) []) ≤ n → accepted ≤ count

-- Rows are the first of a book, and all those whose lines are in the first n bytes of its text.
pub record AreFirstOf (book : Book) (n : ℕ) (rows : Book) : Type 0 where
  pub count : ℕ
  pub within : count ≤ length book
  pub rows_are : rows ≡ take count book
  -- rows whose text is within the n bytes are among them
  pub begins : (accepted : ℕ) → accepted ≤ length book →
      length (rows_text (take accepted book) []) ≤ n → accepted ≤ count
