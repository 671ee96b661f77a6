use Rattle.std.proofs.Common.{◌≡◌, ◌++◌}
use Rattle.auction_rows.specs.History.{rows_of}
use Rattle.auction_text.specs.{Replies.{lines}, RowLines.{row_line}}
use Rattle.auction_text.proofs.writing.rows.push_rows_of.Given as goal

-- the lines of the rows so far, and the entries that are left
abbrev pub invariant-loop-entry : goal.invariant-loop-entry
invariant-loop-entry l = l.text.items ++ lines row_line (rows_of l.entry-iterator) ≡ l.fn.text.items ++ lines row_line (rows_of l.history.entries)
