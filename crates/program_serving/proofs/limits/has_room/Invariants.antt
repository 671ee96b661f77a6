use Rattle.std.proofs.Common.{ℕ, ◌<◌, ◌≤◌, ◌+◌}
use Rattle.auction_rows.specs.declared.limits.TheConstants.{MOST_OF_A_WORKER}
use Rattle.auction_text.specs.InputLimits.{MOST_ROWS_OF_A_PART}
use Rattle.closing_laws.specs.Standing.{counters_at, stores}
use Rattle.program_serving.proofs.limits.has_room.Given as goal

abbrev pub invariant-loop-worker : goal.invariant-loop-worker
invariant-loop-worker l = (w : ℕ) → w < l.worker → stores (counters_at l.auction.counters w) + (MOST_ROWS_OF_A_PART + MOST_OF_A_WORKER) ≤ l.auction.limit
