use Rattle.closing_laws.proofs.ReconcileLemmas.{reconciled_stand, joined_stand}
use Rattle.closing_laws.proofs.reconciled_shards_stand.Goals as goal

pub returns-clause-split : goal.returns-clause-split
returns-clause-split c p closed closing reconciled book opens = reconciled_stand p closed book opens closing reconciled

pub returns-clause-joined : goal.returns-clause-joined
returns-clause-joined c p closed none book opens = joined_stand p closed book opens none
