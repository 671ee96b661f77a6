use Rattle.std.proofs.Common.{arith}
use Rattle.auction_rows.proofs.LeftLemmas.{bought_at_most}
use Rattle.auction_rows.proofs.laws.never_oversold.Goals as goal

pub returns : goal.returns
returns c = record {
  at_most = λ opening book item is. bought_at_most opening book is item;
  together = λ opening book item is. omega (arith, bought_at_most opening book is item);
}
