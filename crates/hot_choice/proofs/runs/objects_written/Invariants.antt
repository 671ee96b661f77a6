use Rattle.std.proofs.Common.{◌≡◌, ◌++◌, take}
use Rattle.auction_rows.specs.Choosing.{objects_written}
use Rattle.hot_choice.specs.inner.Runs.{objects_of, open_objects}
use Rattle.hot_choice.proofs.runs.objects_written.Given as goal

-- those of the entries so far
abbrev pub invariant-loop-entry : goal.invariant-loop-entry
invariant-loop-entry l = objects_of l.runs.items ++ open_objects l.run ≡ objects_written (take l.entry-index l.entries)
