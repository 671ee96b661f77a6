use Rattle.std.proofs.Common.{◌≡◌, ◌++◌}
use Rattle.worker_journals.proofs.history.History.to_entries.Given as goal

-- the entries so far, and those that are left
abbrev pub invariant-loop-entry : goal.invariant-loop-entry
invariant-loop-entry l = l.entries.items ++ l.entry-iterator ≡ l.self.entries
