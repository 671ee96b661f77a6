use Rattle.worker_journals.proofs.JournalLemmas.{comes_after}
use Rattle.worker_journals.proofs.merge.numbers_come_after.Goals as goal

pub returns : goal.returns
returns c = comes_after
