use Rattle.auction_rows.proofs.RequestLemmas.{written_touched}
use Rattle.auction_rows.proofs.laws.writes_are_touched.Goals as goal

pub returns : goal.returns
returns c = written_touched
