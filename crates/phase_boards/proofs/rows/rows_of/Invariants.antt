use Rattle.std.proofs.Common.{◌≡◌, take}
use Rattle.auction_rows.specs.History.{rows_of}
use Rattle.phase_boards.proofs.rows.rows_of.Given as goal

-- the rows of the entries so far
abbrev pub invariant-loop-entry : goal.invariant-loop-entry
invariant-loop-entry l = l.rows.items ≡ rows_of (take l.entry-index l.entries)
