use Rattle.item_shards.proofs.OpeningBookLemmas.{is_book, has_all, has_as_many, opened_again}
use Rattle.item_shards.proofs.laws.opening_books.Goals as goal

pub returns : goal.returns
returns c = record {
  book = is_book;
  rows = has_all;
  workers = λ opening all worker are. has_as_many opening all are worker;
  again = λ opening book is known. (opened_again opening book is known).0;
  same = λ opening book is known. (opened_again opening book is known).1;
}
