-- The rows that a log accepts while an auction goes on.
use Rattle.std.specs.Prelude.{ℕ, ◌++◌, List, [], ◌∷◌, drop, flat_map, fold, length}
use Rattle.auction_rows.specs.{Book.{Book}, History.{ReplaysFrom, book_after}}
use Rattle.auction_rows.specs.declared.{values.Opening.Opening, requests.Opened.Opened, rows.Entry.Entry}
use Rattle.item_shards.specs.OpeningRows.{opening_rows}
use Rattle.auction_text.specs.RowLines.{rows_text}

-- each history replays from the book that those before it leave
unfoldable pub GoOnFrom : Opening → Book → List (List Entry) → Type 0
GoOnFrom opening book [] = Unit {0}
GoOnFrom opening book (history ∷ more) =
    ReplaysFrom opening book history × GoOnFrom opening (book_after opening book history) more

-- the rows of an opening that a log has not, and then those that each history adds
abbrev pub added_rows : Opening → List Opened → List Opened → List (List Entry) → List ℕ
added_rows opening logged more histories =
    rows_text (drop (length logged) (opening_rows opening (logged ++ more))) []
    ++ flat_map (λ history. rows_text [] history) histories

-- the book that histories leave, one after the other
abbrev pub book_past_all : Opening → Book → List (List Entry) → Book
book_past_all opening = fold (book_after opening)
