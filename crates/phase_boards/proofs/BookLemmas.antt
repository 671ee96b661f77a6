-- The book of one phase more.
use Rattle.std.proofs.Common.{◌≡◌, List, [], ◌∷◌, ◌++◌, refl}
use Rattle.auction_rows.specs.{Book.{Book}, declared.rows.Row.{Row}}
use Rattle.phase_boards.specs.Boards.{book_of}

-- the book with one phase more is the book with its rows at the end
pub book_of-snoc : (rows : Book) (phases : List (List Row)) (last : List Row) → book_of rows (phases ++ last ∷ []) ≡ book_of rows phases ++ last
book_of-snoc rows [] last = refl
book_of-snoc rows (phase ∷ phases) last = book_of-snoc (rows ++ phase) phases last
