use Rattle.std.proofs.Common.{◌≡◌, ℕ, ◌+◌, ◌-◌, ◌<◌, ◌≤◌, get_or, take, length, vec_len, vec_capacity}
use Rattle.shard_boxes.{proofs.Sweeps.{Swept}, specs.{Passes.{GrantState}, Seats.{boxes_of}}}
use Rattle.shard_boxes.specs.{States.{state_at}, inner.Grants.{IsNewView}}
use Rattle.shard_boxes.proofs.grants.deal.Given as goal

-- the worker has its grants of the boxes below s
abbrev pub invariant-loop-s : goal.invariant-loop-s
invariant-loop-s g l =
    let workers = g.N.PhaseName.workers in
    (vec_len l.room ≡ l.s) × (length g.N.PhaseName.initial ≤ vec_capacity l.room)
    × (boxes_of l.room.items ≡ take l.s l.boxes)
    × ((k : ℕ) (d : GrantState) → k < l.s → IsNewView (state_at g.N.PhaseName.initial k) workers l.worker 1 (get_or l.room.items k d).knows)
    × (boxes_of l.grants.items ≡ l.boxes)
    × Swept (λ k (x : GrantState). IsNewView (state_at g.N.PhaseName.initial k) workers (l.worker + 1) (workers - (l.worker + 1)) x.knows)
    (λ k (x : GrantState). IsNewView (state_at g.N.PhaseName.initial k) workers l.worker (workers - l.worker) x.knows) l.grants.items l.s
