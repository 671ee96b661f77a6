-- What becomes of a request that takes no shard.
use Rattle.std.specs.Prelude.{◌≡◌, ℕ, ◌<◌, ◌≤◌, Result, Ok, Err}
use Rattle.auction_rows.specs.declared.requests.Request.{Request}
use Rattle.item_shards.specs.CommitNumbers.{last_number}
use Rattle.phase_transactions.specs.{Performing.{HasStoredSome}, Workers.{WorkerState}}
use Rattle.phase_transactions.specs.declared.fault.PermitFault.{PermitFault}
use Rattle.phase_transactions.specs.declared.fault.PermitFault.TheVariants.{Memory, NumberFull}

-- What became of a request that takes no shard: it was committed, or the clock is at the end of
-- numbers, and nothing has changed.
abbrev pub HasStoredOrIsFull : WorkerState → WorkerState → Request → ℕ → Result Unit PermitFault →
    Type 0
HasStoredOrIsFull old new request index (Ok done) =
    (old.clock < last_number) × HasStoredSome old new request index
HasStoredOrIsFull old new request index (Err Memory) = ⊥
HasStoredOrIsFull old new request index (Err NumberFull) = (last_number ≤ old.clock) × (new ≡ old)
