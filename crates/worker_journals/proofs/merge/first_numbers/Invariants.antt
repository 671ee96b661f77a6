use Rattle.std.{proofs.Common.{◌≡◌, ◌≤◌, map, take, length}, specs.List.{AllByRecursion}}
use Rattle.std.specs.Prelude.{vec_capacity}
use Rattle.worker_journals.specs.{Journals.{IsLawfulJournal}, inner.Places.{first_number}}
use Rattle.worker_journals.proofs.merge.first_numbers.Given as goal

abbrev pub invariant-loop-journal : goal.invariant-loop-journal
invariant-loop-journal l = record {
  numbers : l.numbers.items ≡ map first_number (take l.journal-index l.journals);
  lawful : AllByRecursion IsLawfulJournal (take l.journal-index l.journals);
  room : length l.journals ≤ vec_capacity l.numbers;
  so_far : l.numbers.len ≡ l.journal-index;
}
