use Rattle.std.proofs.Common.{◌≡◌, ◌≤◌, length, vec_capacity, vec_len}
use Rattle.phase_floor.specs.inner.Kits.{AreKits}
use Rattle.phase_floor.proofs.start.new_kits.Given as goal

abbrev pub invariant-loop-w : goal.invariant-loop-w
invariant-loop-w l = record {
  len : vec_len l.kits ≡ l.w;
  room : length l.quotas ≤ vec_capacity l.kits;
  each : AreKits l.phase l.stocks.items l.stashes l.quotas l.w l.kits.items;
}
