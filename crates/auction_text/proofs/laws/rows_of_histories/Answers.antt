use Rattle.std.proofs.Common.{ap, sym}
use Rattle.auction_rows.proofs.HistoryLemmas.{book_after-replays}
use Rattle.auction_text.specs.{Replies.{lines}, RowLines.{row_line}}
use Rattle.auction_text.proofs.laws.rows_of_histories.Goals as goal

pub returns : goal.returns
returns c = λ opening book entries replays. ap (lines row_line) (sym (book_after-replays opening book entries replays))
