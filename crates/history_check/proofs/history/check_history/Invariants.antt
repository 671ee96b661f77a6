use Rattle.item_shards.specs.OpeningBooks.{opening_of, rows_of_book}
use Rattle.history_check.proofs.ReadingLemmas.{IsReading}
use Rattle.history_check.proofs.history.check_history.Given as goal

abbrev pub invariant-loop-number : goal.invariant-loop-number
invariant-loop-number g l =
    IsReading (opening_of l.book) (rows_of_book l.book) l.scripts l.fn.order (g.R.Read.remaining l.fn.reader) (g.R.Read.remaining l.reader) l.replay l.number
