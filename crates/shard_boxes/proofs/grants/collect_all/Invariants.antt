use Rattle.std.proofs.Common.{◌≡◌, ℕ, ◌<◌, ◌≤◌, List, ◌++◌, length, map, vec_len}
use Rattle.std.specs.List.{AllByRecursion}
use Rattle.shard_boxes.specs.{Helds.{taken_at}, Keys.{KeyState, lines_at}, Passes.{GrantState}}
use Rattle.shard_boxes.specs.inner.Grants.{AreFree, clock_at, own_at}
use Rattle.shard_boxes.proofs.grants.collect_all.Given as goal

-- the keys that are left, and then those whose grants were collected
abbrev pub invariant-loop-key : goal.invariant-loop-key
invariant-loop-key g l =
    (done : List KeyState) × (l.keys.items ++ done ≡ l.fn.keys.items)
    × AreFree g.N.PhaseName.initial g.N.PhaseName.workers l.boxes (length l.keys.items) l.grants.items
    × ((s : ℕ) (d : GrantState) → s < length l.grants.items → own_at l.grants.items s d ≡ map (λ (k : KeyState). lines_at k s) done)
    × ((s : ℕ) (d : GrantState) → s < length l.grants.items → AllByRecursion (λ (k : KeyState). (taken_at g.N.PhaseName.initial k s).clock ≤ clock_at l.grants.items s d) done)

abbrev pub decreases-loop-key : goal.decreases-loop-key
decreases-loop-key g l = vec_len l.keys
