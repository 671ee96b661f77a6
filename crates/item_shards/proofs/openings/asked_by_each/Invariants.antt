use Rattle.std.proofs.Common.{◌≡◌, ℕ, ◌<◌, length, take, get_or}
use Rattle.item_shards.specs.OpeningRows.{asked_by}
use Rattle.item_shards.proofs.openings.asked_by_each.Given as goal

abbrev pub invariant-loop-opened : goal.invariant-loop-opened
invariant-loop-opened l = record {
  sixteen : length l.counts ≡ 16;
  counted : (worker : ℕ) → worker < 16 → get_or l.counts worker 0 ≡ asked_by (take l.opened-index l.rows) worker;
}
