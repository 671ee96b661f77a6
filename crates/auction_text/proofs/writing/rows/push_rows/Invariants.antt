use Rattle.std.proofs.Common.{◌≡◌, ◌++◌, take}
use Rattle.auction_text.specs.{Replies.{lines}, RowLines.{row_line}}
use Rattle.auction_text.proofs.writing.rows.push_rows.Given as goal

abbrev pub invariant-loop-row : goal.invariant-loop-row
invariant-loop-row l = l.text.items ≡ l.fn.text.items ++ lines row_line (take l.row-index l.rows)
