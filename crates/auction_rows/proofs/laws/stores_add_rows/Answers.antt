use Rattle.auction_rows.{proofs.RequestLemmas.{row_made}, specs.Refusals.{refusal}}
use Rattle.auction_rows.proofs.laws.stores_add_rows.Goals as goal

pub returns : goal.returns
returns c = λ opening book worker request. row_made book worker request (refusal opening book request)
