use Rattle.item_shards.specs.OpeningBooks.{opening_of, rows_of_book}
use Rattle.example_watch.proofs.watching.watched_run.Given as goal

-- the list that was just made, and the opening book
abbrev pub ghosts-perform : goal.ghosts-perform
ghosts-perform g a = record { log = a.run.log; opening = opening_of a.run.book; rows = rows_of_book a.run.book }
