use Rattle.std.proofs.Common.{◌≡◌, take}
use Rattle.auction_rows.specs.Choosing.{objects_written}
use Rattle.worker_journals.proofs.MergedLemmas.{all_entries}
use Rattle.hot_choice.specs.inner.Runs.{objects_of}
use Rattle.hot_choice.proofs.runs.objects_written_last.Given as goal

-- those of the journals so far
abbrev pub invariant-loop-journal : goal.invariant-loop-journal
invariant-loop-journal l = objects_of l.runs.items ≡ objects_written (all_entries (take l.journal-index l.journals))
