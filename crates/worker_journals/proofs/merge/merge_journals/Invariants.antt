use Rattle.std.proofs.Common.{◌≡◌, ◌++◌, length}
use Rattle.worker_journals.specs.{Merged.{merged}, inner.Places.{left_of, AreMerging}}
use Rattle.worker_journals.proofs.merge.merge_journals.Given as goal

abbrev pub invariant-loop-worker : goal.invariant-loop-worker
invariant-loop-worker l = record {
  merging : AreMerging (length l.journals.items) l.journals.items l.places.items l.numbers.items;
  told : l.entries.items ++ merged (left_of l.journals.items l.places.items) ≡ merged l.journals.items;
}

abbrev pub decreases-loop-worker : goal.decreases-loop-worker
decreases-loop-worker l = length (merged (left_of l.journals.items l.places.items))
