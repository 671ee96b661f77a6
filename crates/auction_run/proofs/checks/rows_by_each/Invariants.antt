use Rattle.std.proofs.Common.{◌≡◌, ℕ, ◌<◌, length, take, get_or}
use Rattle.item_shards.specs.OpeningRows.{rows_by}
use Rattle.auction_run.proofs.checks.rows_by_each.Given as goal

abbrev pub invariant-loop-row : goal.invariant-loop-row
invariant-loop-row l = record {
  sixteen : length l.counts ≡ 16;
  counted : (worker : ℕ) → worker < 16 → get_or l.counts worker 0 ≡ rows_by (take l.row-index l.rows) worker;
}
