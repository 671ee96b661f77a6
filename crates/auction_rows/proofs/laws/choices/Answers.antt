use Rattle.phase_laws.proofs.RankLemmas.{top_is_top}
use Rattle.auction_rows.proofs.OrderLemmas.{heat_total, heat_same}
use Rattle.auction_rows.proofs.laws.choices.Goals as goal

pub returns : goal.returns
returns c = record {
  chosen = λ entries threshold most. top_is_top (heat_total entries) (heat_same entries) most _;
  total = heat_total;
  tell_apart = heat_same;
}
