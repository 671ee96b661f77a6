use Rattle.log_opening.proofs.OpenedLemmas.{opens_first}
use Rattle.log_opening.proofs.laws.a_prefix_opens_its_rows.Goals as goal

pub returns : goal.returns
returns c = opens_first
