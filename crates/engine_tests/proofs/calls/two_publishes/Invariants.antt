use Rattle.std.proofs.Common.{[]}
use Rattle.item_shards.specs.OpeningBooks.{opening_of}
use Rattle.engine_tests.proofs.calls.two_publishes.Given as goal

-- the list that was just made, and the users and categories of the book
abbrev pub ghosts-show_rows : goal.ghosts-show_rows
ghosts-show_rows g a = record { log = a.log; opening = opening_of a.book.now; rows = [] }
