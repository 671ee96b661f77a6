-- How far the text of a log is read.
use Rattle.std.specs.Io.KnownBytes.{Appends, IsAtEnd}
use Rattle.std.specs.Prelude.{◌≡◌, ◌≤◌, ◌<◌, ◌+◌, ◌^◌, ◌++◌, ℕ, List, [], All, Option, Some, length, take}
use Rattle.auction_rows.specs.Book.{Book}
use Rattle.phase_floor.specs.{Adding.{IsSameAuction, IsStartOf}, States.{JoinedState}}
use Rattle.auction_text.specs.{ReadFault.{ReadFault}, RowLines.{rows_text}}
use Rattle.auction_text.specs.ReadFault.TheVariants as read
use Rattle.byte_texts.specs.Writing.{IsPartWritten}
use Rattle.log_opening.specs.{Opening.{AreNotRows, IsRefusedIn}, Parts.{HasNoEnd}}
use Rattle.log_opening.specs.{ReadBack.{IsInRange}, declared.opening.LoggedAuction.{LoggedAuction}}
use Rattle.log_opening.specs.declared.{opening.OpenFault.{OpenFault}, parts.ReadRows.{ReadRows}}

-- So far a text is read: its rows are those of a book, and their text has so many bytes.
pub record HasRead (reading : ReadRows) (book : Book) : Type 0 where
  pub start : IsStartOf reading.auction book
  pub in_range : All IsInRange book
  pub rows : reading.rows ≡ length book
  pub kept : reading.kept ≡ length (rows_text book [])

-- So far a text is read, and so many bytes more can be counted.
pub record CanReadOn (reading : ReadRows) (bytes : ℕ) : Type 0 where
  pub book : Book
  pub has : HasRead reading book
  pub room : reading.kept + bytes < 2 ^ 62

-- Bytes were read that are the text of more rows, and others behind it.
pub record ReadsRows (new : ReadRows) (book : Book) (bytes behind : List ℕ) : Type 0 where
  pub more : Book
  pub has : HasRead new (book ++ more)
  pub text : bytes ≡ rows_text more [] ++ behind

-- Bytes were read that are the text of more rows, and others behind it, and that text was told.
pub record TellsRows (new : ReadRows) (book : Book) (bytes behind : List ℕ)
    (told now : Option (List ℕ)) : Type 0 where
  pub more : Book
  pub has : HasRead new (book ++ more)
  pub text : bytes ≡ rows_text more [] ++ behind
  pub tells : Appends told now (rows_text more [])

-- The whole lines of what a buffer held are read: the rest is at its front, and has no line end.
pub record LeavesRest (old new : ReadRows) (filled left : ℕ) (buffer : List ℕ) : Type 0 where
  pub within : left ≤ filled
  pub no_end : HasNoEnd (take left buffer)
  pub kept : new.kept + left ≡ old.kept + filled
  pub same : IsSameAuction old.auction new.auction

-- A text is read to its end: what a buffer still holds of it has no line end.
pub record HasReadAll (old new : ReadRows) (filled : ℕ) (buffer : List ℕ)
    (remaining : Option (List ℕ)) : Type 0 where
  pub no_end : HasNoEnd (take filled buffer)
  pub can : CanReadOn new 1
  pub end : IsAtEnd remaining
  pub same : IsSameAuction old.auction new.auction

-- The rows of a text's first lines are read and told, bytes behind them are held, and others are
-- left.
pub record IsReadTo (text remaining told now : Option (List ℕ)) (reading : ReadRows)
    (held : List ℕ) : Type 0 where
  pub book : Book
  pub has : HasRead reading book
  pub tells : Appends told now (rows_text book [])
  pub known : (all : List ℕ) → text ≡ Some all →
      (left : List ℕ) × (remaining ≡ Some left) × (all ≡ rows_text book [] ++ (held ++ left))

-- What a text opens is what was read of it: the auction, its rows, and the bytes of their text.
pub record OpensReading (reading : ReadRows) (opened : LoggedAuction) : Type 0 where
  pub auction : opened.auction ≡ reading.auction
  pub rows : opened.rows ≡ reading.rows
  pub kept : opened.kept ≡ reading.kept

-- At a fault a prefix of the text of rows was told. They are the first of the bytes that were read.
pub record TellsSome (bytes : List ℕ) (told now : Option (List ℕ)) : Type 0 where
  pub more : Book
  pub part : IsPartWritten told now (rows_text more [])
  pub behind : List ℕ
  pub text : bytes ≡ rows_text more [] ++ behind

-- these bytes of a text are refused after the rows of a book that this auction has, by this fault;
-- the last are those behind them
abbrev pub AreNotRowsOf : OpenFault → JoinedState → Book → List ℕ → List ℕ → Type 0
AreNotRowsOf told auction book bytes behind =
    AreNotRows told auction.limit (length auction.counters) auction.opening book bytes behind

-- the first of these bytes, a part of a text, are refused after the rows of a book that this
-- auction has, by this fault
abbrev pub IsRefusedBehind : OpenFault → JoinedState → Book → List ℕ → Type 0
IsRefusedBehind told auction book text =
    IsRefusedIn told auction.limit (length auction.counters) auction.opening book text

-- the number of the record that has a fault, 0 of other faults
abbrev pub place_of : ReadFault → ℕ
place_of (read.Line place cause) = place
place_of (read.Worker place) = place
place_of read.Read = 0
place_of read.Memory = 0
place_of read.Long = 0
