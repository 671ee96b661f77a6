-- What the text of a log opens, and why it is refused.
use Rattle.std.specs.Io.KnownBytes.{Appends}
use Rattle.std.specs.Prelude.{◌≡◌, ◌≤◌, ◌<◌, ◌+◌, ◌++◌, ℕ, true, false, List, [], All, Option, Ok, Err, IfSome, drop, length, take}
use Rattle.auction_rows.specs.{Book.{Book}, History.{IsBook}, declared.values.Opening.{Opening}}
use Rattle.phase_floor.specs.{Adding.{IsStartOf}, States.{JoinedState}}
use Rattle.phase_floor.specs.declared.adding.AddFault.{AddFault}
use Rattle.phase_floor.specs.declared.adding.AddFault.TheVariants as add
use Rattle.auction_text.specs.{ReadFault.{ReadFault}, Reading.{IsInputFault}, RowLines.{rows_text}}
use Rattle.auction_text.specs.Scripts.{Asked, input_of}
use Rattle.auction_text.specs.ReadFault.TheVariants as read
use Rattle.byte_texts.specs.Writing.{IsPartWritten}
use Rattle.log_opening.specs.{CutRows.{is_cut_row}, Differences.{IsFirstDifference}}
use Rattle.log_opening.specs.Lines.{AreLines, AreWholeLines, line_at}
use Rattle.log_opening.specs.Parts.{AreRowsFrom, HasNoEnd, IsFirstRefused, rows_from}
use Rattle.log_opening.specs.{ReadBack.{IsWritten}, declared.opening.LoggedAuction.{LoggedAuction}}
use Rattle.log_opening.specs.declared.{opening.OpenFault.{OpenFault}, parts.TheConstants.{PART_LEN}}
use Rattle.log_opening.specs.declared.tails.TheConstants.{LONGEST_ROW}
use Rattle.log_opening.specs.declared.opening.OpenFault.TheVariants as fault

-- ---- what a text opens

-- A text is that of a book's rows, which are its whole lines, and of the tail behind them.
pub record HasRowsAndTail (text : List ℕ) (book : Book) (opened : LoggedAuction) : Type 0 where
  pub lines : AreWholeLines text opened.kept
  pub rows : take opened.kept text ≡ rows_text book []
  pub tail : opened.tail.items ≡ drop opened.kept text

-- The text of a log opens an auction with the rows of a book. What is behind them is a cut row.
pub record OpensWith (text : Option (List ℕ)) (book : Book) (opened : LoggedAuction)
    : Type 0 where
  -- the auction is a start of the book
  pub start : IsStartOf opened.auction book
  -- its rows are as a log's rows are
  pub written : All (IsWritten (length opened.auction.counters)) book
  -- so many there are
  pub rows : opened.rows ≡ length book
  -- and so many bytes is their text
  pub kept : opened.kept ≡ length (rows_text book [])
  -- the text, if it is known, is that of the rows and the tail
  pub text_is : IfSome text (λ text. HasRowsAndTail text book opened)
  -- the tail is a cut row
  pub cut : is_cut_row opened.tail.items ≡ true

-- The text of a log opens an auction, and the text of its rows was told.
pub record Opens (text told now : Option (List ℕ)) (opened : LoggedAuction) : Type 0 where
  pub book : Book
  pub opens : OpensWith text book opened
  pub tells : Appends told now (rows_text book [])

-- ---- why a text is refused

-- a fault of a record that is counted after so many others
abbrev pub counted_after : ℕ → ReadFault → ReadFault
counted_after rows (read.Line place cause) = read.Line (rows + place) cause
counted_after rows (read.Worker place) = read.Worker (rows + place)
counted_after rows read.Read = read.Read
counted_after rows read.Memory = read.Memory
counted_after rows read.Long = read.Long

-- Lines cannot be read, by this fault, if it is one of what they say.
pub record AreFaulty (workers before : ℕ) (lines : List ℕ) (told : ReadFault) : Type 0 where
  pub are_lines : AreLines lines
  pub of : ReadFault
  pub told_is : told ≡ counted_after before of
  pub read : IsInputFault of → input_of workers lines ≡ Err of

-- Lines after a book ask for rows, one of which is not taken.
pub record AreRefused (limit : ℕ) (taken : AddFault) (workers : ℕ) (opening : Opening)
    (book : Book) (lines : List ℕ) (number : ℕ) : Type 0 where
  pub are_lines : AreLines lines
  pub asked : Asked
  pub read : input_of workers lines ≡ Ok asked
  pub place : ℕ
  pub first : IsFirstRefused limit taken workers opening book asked.rows place
  pub number_is : number ≡ length book + place + 1

-- Lines after a book ask for rows but are not the text of these: they differ first on the line with
-- this number.
pub record AreOther (workers : ℕ) (opening : Opening) (book : Book) (lines : List ℕ)
    (number : ℕ) : Type 0 where
  pub are_lines : AreLines lines
  pub asked : Asked
  pub read : input_of workers lines ≡ Ok asked
  pub are_rows : AreRowsFrom opening book asked.rows
  pub added : Book
  pub added_is : rows_from opening book asked.rows ≡ book ++ added
  pub at : ℕ
  pub differs : IsFirstDifference lines (rows_text added []) at
  pub number_is : number ≡ length book + line_at lines at

-- these bytes of a text are refused after the rows of a book, by this fault; the last are those
-- behind them
abbrev pub AreNotRows : OpenFault → ℕ → ℕ → Opening → Book → List ℕ → List ℕ → Type 0
AreNotRows (fault.Tail line) limit workers opening book bytes behind =
    HasNoEnd bytes × (is_cut_row bytes ≡ false) × (behind ≡ []) × (line ≡ length book + 1)
AreNotRows (fault.Long line) limit workers opening book bytes behind =
    HasNoEnd bytes × (LONGEST_ROW < length bytes) × (line ≡ length book + 1)
AreNotRows (fault.Record of) limit workers opening book bytes behind =
    AreFaulty workers (length book) bytes of
AreNotRows (fault.Row number taken) limit workers opening book bytes behind =
    AreRefused limit taken workers opening book bytes number
AreNotRows (fault.Line line) limit workers opening book bytes behind =
    AreOther workers opening book bytes line
AreNotRows fault.Memory limit workers opening book bytes behind = Unit {0}
AreNotRows fault.Write limit workers opening book bytes behind = Unit {0}

-- The first of these bytes, a part of a text, are refused after the rows of a book, by this fault.
pub record IsRefusedIn (told : OpenFault) (limit workers : ℕ) (opening : Opening) (book : Book)
    (text : List ℕ) : Type 0 where
  pub bytes : List ℕ
  pub behind : List ℕ
  pub text_is : text ≡ bytes ++ behind
  pub few : length bytes ≤ PART_LEN
  pub not_rows : AreNotRows told limit workers opening book bytes behind

-- A text is refused by this fault, where each of so many workers may commit so many requests: its
-- first lines are the text of the rows of a book, and the bytes behind these are refused.
pub record IsRefused (told : OpenFault) (limit workers : ℕ) (opening : Opening) (text : List ℕ)
    : Type 0 where
  pub book : Book
  pub is_book : IsBook opening book
  pub written : All (IsWritten workers) book
  pub rest : List ℕ
  pub text_is : text ≡ rows_text book [] ++ rest
  pub refused : IsRefusedIn told limit workers opening book rest

-- a text is refused by this fault, where its rows were to be added to this auction
abbrev pub IsRefusedBy : OpenFault → JoinedState → List ℕ → Type 0
IsRefusedBy told auction =
    IsRefused told auction.limit (length auction.counters) auction.opening

-- At a fault a prefix of the text of rows was told. They are the first of the text, if it is known.
pub record TellsFirst (text told now : Option (List ℕ)) : Type 0 where
  pub book : Book
  pub part : IsPartWritten told now (rows_text book [])
  pub text_is : IfSome text (λ text. (rest : List ℕ) × (text ≡ rows_text book [] ++ rest))

-- a fault that only memory, or a read or a write that failed, can bring
abbrev pub IsForMemory : OpenFault → Type 0
IsForMemory (fault.Tail line) = ⊥
IsForMemory (fault.Long line) = ⊥
IsForMemory (fault.Record of) = ¬ IsInputFault of
IsForMemory (fault.Row number add.TooLong) = ⊥
IsForMemory (fault.Row number (add.Refused reason)) = ⊥
IsForMemory (fault.Row number add.BadRow) = ⊥
IsForMemory (fault.Row number add.Memory) = Unit {0}
IsForMemory (fault.Line line) = ⊥
IsForMemory fault.Memory = Unit {0}
IsForMemory fault.Write = Unit {0}
