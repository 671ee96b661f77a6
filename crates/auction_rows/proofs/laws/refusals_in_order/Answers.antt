use Rattle.auction_rows.proofs.RefusalLemmas.{refusal-split}
use Rattle.auction_rows.proofs.laws.refusals_in_order.Goals as goal

pub returns : goal.returns
returns c = refusal-split
