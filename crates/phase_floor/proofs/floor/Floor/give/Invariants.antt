use Rattle.std.proofs.Common.{◌≡◌, ℕ, ◌+◌, ◌<◌, ◌≤◌, get_or, drop, vec_len, vec_capacity}
use Rattle.std.specs.Vec.Iter.{into_iter_items, into_iter_len}
use Rattle.phase_transactions.specs.Workers.{WorkerState}
use Rattle.phase_floor.specs.Floors.{stash_at, IsNewPermit}
use Rattle.phase_floor.proofs.floor.Floor.give.Given as goal

abbrev pub invariant-loop-key : goal.invariant-loop-key
invariant-loop-key g l = let workers = g.N.PhaseName.workers in record {
  len : vec_len l.permits ≡ l.w;
  room : workers ≤ vec_capacity l.permits;
  keys_left : l.w + into_iter_len l.key-iterator ≡ workers;
  kits_left : l.w + into_iter_len l.kits ≡ workers;
  stashes_left : l.w + into_iter_len l.stashes ≡ workers;
  keys : into_iter_items l.key-iterator ≡ drop l.w l.fn.keys.items;
  kits : into_iter_items l.kits ≡ drop l.w l.fn.kits.items;
  stashes : into_iter_items l.stashes ≡ drop l.w l.fn.stashes.items;
  each : (w : ℕ) (d : WorkerState) → w < l.w → IsNewPermit l.self w (get_or l.quotas w 0) (stash_at l.fn.stashes.items w) (get_or l.permits.items w d);
}
