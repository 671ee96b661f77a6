use Rattle.phase_permits.proofs.RightLemmas.{txn_right, model_reply}
use Rattle.closing_laws.proofs.commits.replies_are_right.Goals as goal

pub returns-clause-txns : goal.returns-clause-txns
returns-clause-txns c = txn_right

pub returns-clause-commits : goal.returns-clause-commits
returns-clause-commits c = model_reply
