use Rattle.std.proofs.Common.{◌≡◌, ℕ, ◌<◌, ◌≤◌, get_or, vec_len, vec_capacity}
use Rattle.shard_boxes.proofs.grants.make_rooms.Given as goal

abbrev pub invariant-loop : goal.invariant-loop
invariant-loop l =
    (vec_len l.rooms ≡ l.counter)
    × ((w : ℕ) (d : _) → w < l.counter → (vec_len (get_or l.rooms.items w d) ≡ 0) × (l.count ≤ vec_capacity (get_or l.rooms.items w d)))
