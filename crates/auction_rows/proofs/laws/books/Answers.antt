use Rattle.auction_rows.proofs.HistoryLemmas.{longer_book, book_parts, own_rows}
use Rattle.auction_rows.proofs.laws.books.Goals as goal

pub returns : goal.returns
returns c = record {
  parts = λ opening book rows. (book_parts opening book rows, λ both. longer_book opening book rows both.0 both.1);
  own_rows = own_rows;
}
