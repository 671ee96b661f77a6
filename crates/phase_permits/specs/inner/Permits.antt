-- What a permit is.
use Rattle.std.specs.Prelude.{ℕ, Bool}
use Rattle.phase_transactions.specs.Workers.{WorkerState, IsExplained}
use Rattle.phase_permits.specs.Kinds.{IsEmptyIf}

-- What is true of a permit, of a joined phase or a split one with so many shards.
abbrev pub IsPermit : Bool → ℕ → WorkerState → Type 0
IsPermit joined shards w = IsEmptyIf joined w.slices × IsExplained shards w
