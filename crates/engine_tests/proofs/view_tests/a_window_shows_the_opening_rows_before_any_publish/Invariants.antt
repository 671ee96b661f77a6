use Rattle.item_shards.specs.OpeningBooks.{opening_of, rows_of_book}
use Rattle.engine_tests.proofs.view_tests.a_window_shows_the_opening_rows_before_any_publish.Given as goal

-- the list that was just made, and the book
abbrev pub ghosts-show_opening : goal.ghosts-show_opening
ghosts-show_opening g a = record { log = a.log; opening = opening_of a.book.now; rows = rows_of_book a.book.now }
