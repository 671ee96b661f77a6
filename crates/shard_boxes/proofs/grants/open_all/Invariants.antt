use Rattle.std.proofs.Common.{◌≡◌, ◌+◌, drop, length}
use Rattle.std.specs.Vec.Iter.{into_iter_items, into_iter_len}
use Rattle.shard_boxes.{proofs.Sweeps.{Swept}, specs.Passes.{GrantState}}
use Rattle.shard_boxes.specs.inner.Passing.{IsSpare}
use Rattle.shard_boxes.specs.{Seats.{boxes_of}, States.{state_at}, inner.Grants.{IsNewView}}
use Rattle.shard_boxes.proofs.grants.open_all.Given as goal

-- the boxes below s are opened
abbrev pub invariant-loop-shard : goal.invariant-loop-shard
invariant-loop-shard g l =
    (l.s + into_iter_len l.shard-iterator ≡ length g.N.PhaseName.initial)
    × (into_iter_items l.shard-iterator ≡ drop l.s l.fn.shards.items)
    × (boxes_of l.grants.items ≡ l.boxes)
    × Swept (λ k (x : GrantState). IsNewView (state_at g.N.PhaseName.initial k) g.N.PhaseName.workers 0 g.N.PhaseName.workers x.knows) (λ k (x : GrantState). IsSpare x.knows) l.grants.items l.s
