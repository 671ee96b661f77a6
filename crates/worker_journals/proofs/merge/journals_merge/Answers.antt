use Rattle.worker_journals.proofs.MergedLemmas.{merged_ascends, merged_parts, merged_count, merged_permutes}
use Rattle.worker_journals.proofs.merge.journals_merge.Goals as goal

pub returns : goal.returns
returns c = record { ascending = merged_ascends; parts = merged_parts; count = merged_count; permutation = merged_permutes }
