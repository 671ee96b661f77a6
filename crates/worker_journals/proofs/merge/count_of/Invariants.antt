use Rattle.std.{proofs.Common.{◌≡◌, take}, specs.List.{AllByRecursion}}
use Rattle.worker_journals.specs.{Journals.{IsLawfulJournal}, Merged.{entry_count}}
use Rattle.worker_journals.proofs.merge.count_of.Given as goal

abbrev pub invariant-loop-journal : goal.invariant-loop-journal
invariant-loop-journal l = record {
  count : l.count ≡ entry_count (take l.journal-index l.journals);
  lawful : AllByRecursion IsLawfulJournal (take l.journal-index l.journals);
}
