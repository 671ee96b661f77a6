use Rattle.std.proofs.Common.{◌≡◌, ℕ, ◌<◌, length, take}
use Rattle.auction_rows.specs.declared.limits.TheConstants.{MOST_OF_A_WORKER}
use Rattle.closing_laws.specs.Standing.{counters_at}
use Rattle.phase_floor.specs.{Resuming.{counters_in}, States.{IsBookOf}}
use Rattle.phase_floor.proofs.joined.Joined.resume.Given as goal

abbrev pub invariant-loop-row : goal.invariant-loop-row
invariant-loop-row l = record {
  opening : l.joined.opening ≡ l.book.opening;
  limit : l.joined.limit ≡ MOST_OF_A_WORKER;
  phase : l.joined.phase ≡ 0;
  shards : length l.joined.shards ≡ l.shards;
  workers : length l.joined.counters ≡ l.workers;
  counters : (w : ℕ) → w < l.workers → counters_at l.joined.counters w ≡ counters_in (take l.row-index l.row-items) w;
  book : IsBookOf l.joined (take l.row-index l.row-items);
}
