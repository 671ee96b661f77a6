use Rattle.std.proofs.Common.{◌≡◌, ◌++◌}
use Rattle.auction_rows.specs.History.{rows_of}
use Rattle.worker_journals.specs.Merged.{merged}
use Rattle.phase_boards.proofs.rows.last_rows.Given as goal

-- the rows so far, and those of the entries that are left
abbrev pub invariant-loop-entry : goal.invariant-loop-entry
invariant-loop-entry l = l.rows.items ++ rows_of l.entry-iterator ≡ rows_of (merged l.history.last)
