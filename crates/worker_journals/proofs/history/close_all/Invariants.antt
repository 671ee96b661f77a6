use Rattle.std.proofs.Common.{◌≡◌, take, drop, map}
use Rattle.worker_journals.specs.Journals.{closed_journal}
use Rattle.worker_journals.proofs.history.close_all.Given as goal

abbrev pub invariant-loop-journal : goal.invariant-loop-journal
invariant-loop-journal l = record {
  closed : take l.journal-index l.journals ≡ map closed_journal (take l.journal-index l.fn.journals);
  open_yet : drop l.journal-index l.journals ≡ drop l.journal-index l.fn.journals;
}
