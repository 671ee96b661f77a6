use Rattle.closing_laws.proofs.LawfulLemmas.{are_sliced, hot_merged}
use Rattle.closing_laws.proofs.hot_objects_are_merged.Goals as goal

pub returns-clause-merged : goal.returns-clause-merged
returns-clause-merged c p closed closing reconciled = hot_merged p closed closing reconciled

pub returns-clause-slices : goal.returns-clause-slices
returns-clause-slices c p closed = are_sliced p closed
