use Rattle.std.proofs.Common.{rules}
use Rattle.auction_rows.proofs.StarsLemmas.{stars_found}
use Rattle.auction_rows.proofs.values.Stars.new.Goals as goal

pub returns-then-value-le5-clause-exact : goal.returns-then-value-le5-clause-exact
returns-then-value-le5-clause-exact c = stars_found _ c.args.value (search rules)
