use Rattle.std.proofs.Common.{ℕ, ◌+◌, ◌<◌, ◌≤◌, length}
use Rattle.item_shards.specs.{OpeningBooks.{rows_of_book}, OpeningRows.{rows_by}}
use Rattle.run_laws.specs.Serving.{script_of}
use Rattle.auction_run.proofs.checks.are_short.Given as goal

abbrev pub invariant-loop-worker : goal.invariant-loop-worker
invariant-loop-worker g l = (w : ℕ) → w < l.worker → rows_by (rows_of_book l.book) w + length (script_of (g.S.Scripts.asked l.scripts) w) ≤ 1000000
