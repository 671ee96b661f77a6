use Rattle.closing_laws.proofs.CommitLemmas.{commits_grow, stores_few}
use Rattle.closing_laws.proofs.commits_grow.Goals as goal

pub returns-clause-commits : goal.returns-clause-commits
returns-clause-commits c = commits_grow

pub returns-clause-stores : goal.returns-clause-stores
returns-clause-stores c = stores_few
