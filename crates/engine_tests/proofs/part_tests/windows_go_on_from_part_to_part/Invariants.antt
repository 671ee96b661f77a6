use Rattle.item_shards.specs.OpeningBooks.{opening_of, rows_of_book}
use Rattle.engine_tests.proofs.part_tests.windows_go_on_from_part_to_part.Given as goal

-- the list that was just made, and the book
abbrev pub ghosts-show_parts : goal.ghosts-show_parts
ghosts-show_parts g a = record { log = a.log; opening = opening_of a.book.now; rows = rows_of_book a.book.now }
