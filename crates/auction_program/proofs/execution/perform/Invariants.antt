use Rattle.item_shards.specs.OpeningBooks.{opening_of, rows_of_book}
use Rattle.auction_program.proofs.execution.perform.Given as goal

-- the list that was just made, and the opening book
abbrev pub ghosts-perform_watched : goal.ghosts-perform_watched
ghosts-perform_watched g a = record { log = a.log; opening = opening_of a.asked.book.now; rows = rows_of_book a.asked.book.now }
