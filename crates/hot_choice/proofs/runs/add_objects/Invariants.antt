use Rattle.std.proofs.Common.{◌≡◌, ◌++◌}
use Rattle.auction_rows.specs.Choosing.{objects_written}
use Rattle.hot_choice.specs.inner.Runs.{objects_of, open_objects}
use Rattle.hot_choice.proofs.runs.add_objects.Given as goal

-- those of the entries so far are added
abbrev pub invariant-loop-entry : goal.invariant-loop-entry
invariant-loop-entry l = record {
  all : l.yielded ++ l.entry-iterator ≡ l.journal.entries;
  added : objects_of l.runs.items ++ open_objects l.run ≡ objects_of l.fn.runs.items ++ objects_written l.yielded;
}
