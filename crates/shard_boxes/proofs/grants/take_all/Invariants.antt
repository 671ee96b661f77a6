use Rattle.std.proofs.Common.{◌≡◌, ℕ, ◌<◌, ◌≤◌, length, map, slice_index_or, vec_len, vec_capacity}
use Rattle.shard_boxes.{proofs.Sweeps.{Swept}, specs.Passes.{GrantState}}
use Rattle.shard_boxes.specs.inner.Passing.{IsSpare}
use Rattle.shard_boxes.specs.{Seats.{boxes_of}, States.{state_of, state_at}}
use Rattle.shard_boxes.specs.inner.Grants.{IsTaken, clock_at, own_at}
use Rattle.shard_boxes.proofs.grants.take_all.Given as goal

-- the shards of the boxes below s are taken
abbrev pub invariant-loop-s : goal.invariant-loop-s
invariant-loop-s g l =
    (vec_len l.closed_shards ≡ l.s) × (length g.N.PhaseName.initial ≤ vec_capacity l.closed_shards)
    × (boxes_of l.grants.items ≡ l.boxes)
    × ((s : ℕ) (d : GrantState) → s < l.s → IsTaken g.N.PhaseName.initial g.N.PhaseName.workers (own_at l.fn.grants.items s d) (clock_at l.fn.grants.items s d) s (state_at (map state_of l.closed_shards.items) s))
    × Swept (λ k (x : GrantState). IsSpare x.knows) (λ k (x : GrantState). (d : GrantState) → slice_index_or l.fn.grants.items k d ≡ x) l.grants.items l.s
