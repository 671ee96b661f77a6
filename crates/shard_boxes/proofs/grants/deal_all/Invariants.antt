use Rattle.std.proofs.Common.{◌≡◌, ℕ, ◌+◌, ◌-◌, ◌<◌, ◌≤◌, drop, vec_len, vec_capacity}
use Rattle.std.specs.Vec.Iter.{into_iter_items, into_iter_len}
use Rattle.shard_boxes.specs.{Keys.{IsNewKey, key_at}, inner.Grants.{AreNewGrants}}
use Rattle.shard_boxes.proofs.grants.deal_all.Given as goal

abbrev pub invariant-loop-room : goal.invariant-loop-room
invariant-loop-room g l =
    let workers = g.N.PhaseName.workers in
    (l.worker + into_iter_len l.room-iterator ≡ workers)
    × (into_iter_items l.room-iterator ≡ drop l.worker l.fn.rooms.items)
    × AreNewGrants g.N.PhaseName.initial workers l.boxes l.worker (workers - l.worker) l.grants.items
    × (vec_len l.keys ≡ l.worker) × (workers ≤ vec_capacity l.keys)
    × ((w : ℕ) → w < l.worker → IsNewKey l.boxes w (key_at l.keys.items w))
