use Rattle.auction_rows.proofs.FreshIdLemmas.{ids_of_book}
use Rattle.auction_rows.proofs.laws.fresh_ids.Goals as goal

pub returns : goal.returns
returns c = record {
  fresh = λ opening book is. (ids_of_book opening book is).0;
  distinct = λ opening book is. (ids_of_book opening book is).1;
}
