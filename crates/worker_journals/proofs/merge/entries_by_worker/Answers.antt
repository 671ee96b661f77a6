use Rattle.worker_journals.proofs.MergedLemmas.{entries_of_own, entries_of_none}
use Rattle.worker_journals.proofs.merge.entries_by_worker.Goals as goal

pub returns : goal.returns
returns c = record { own = entries_of_own; none = entries_of_none }
