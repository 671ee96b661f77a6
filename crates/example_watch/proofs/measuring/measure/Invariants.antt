use Rattle.item_shards.specs.OpeningBooks.{opening_of, rows_of_book}
use Rattle.example_watch.proofs.measuring.measure.Given as goal

-- the list that was just made, and the opening book
abbrev pub ghosts-watch : goal.ghosts-watch
ghosts-watch g a = record { log = a.log; opening = opening_of a.book.now; rows = rows_of_book a.book.now }
