use Rattle.std.proofs.Common.{◌≡◌, ◌≤◌, ◌+◌, drop, length, [], ◌∷◌}
use Rattle.std.specs.Vec.Iter.{into_iter_items, into_iter_len}
use Rattle.shard_boxes.{proofs.Sweeps.{Swept}, specs.{Helds.{taken_at}, Keys.{lines_at}, Passes.{GrantState}}}
use Rattle.shard_boxes.specs.{Seats.{boxes_of}, States.{state_at}, inner.Grants.{IsFree, clock_at, clock_seen, own_at}}
use Rattle.shard_boxes.proofs.grants.collect.Given as goal

-- the grants of the boxes below s are collected
abbrev pub invariant-loop-other : goal.invariant-loop-other
invariant-loop-other g l =
    (l.s + into_iter_len l.other-iterator ≡ length g.N.PhaseName.initial)
    × (into_iter_items l.other-iterator ≡ drop l.s l.fn.others.items)
    × (boxes_of l.grants.items ≡ l.boxes)
    × Swept (λ k (x : GrantState). IsFree (state_at g.N.PhaseName.initial k) g.N.PhaseName.workers l.fn.key.worker x.knows × ((e : GrantState) → (x.knows.own ≡ lines_at l.fn.key k ∷ own_at l.fn.others.items k e)
    × ((taken_at g.N.PhaseName.initial l.fn.key k).clock ≤ clock_seen x.knows) × (clock_at l.fn.others.items k e ≤ clock_seen x.knows)))
    (λ k (x : GrantState). IsFree (state_at g.N.PhaseName.initial k) g.N.PhaseName.workers l.fn.key.worker x.knows × (x.knows.own ≡ lines_at l.fn.key k ∷ []) × (clock_seen x.knows ≡ (taken_at g.N.PhaseName.initial l.fn.key k).clock)) l.grants.items l.s
