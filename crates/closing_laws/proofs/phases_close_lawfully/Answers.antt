use Rattle.closing_laws.proofs.LawfulLemmas.{joined_lawful, split_lawful}
use Rattle.closing_laws.proofs.phases_close_lawfully.Goals as goal

pub returns-clause-split : goal.returns-clause-split
returns-clause-split c p closed closing reconciled = split_lawful p closed closing reconciled

pub returns-clause-joined : goal.returns-clause-joined
returns-clause-joined c p closed none = joined_lawful p closed none
