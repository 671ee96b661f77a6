use Rattle.std.proofs.Common.{◌≡◌, ◌++◌, map, take, drop, vec_len}
use Rattle.phase_floor.specs.NextRun.{stores_as_commits}
use Rattle.phase_floor.proofs.joined.set_commits.Given as goal

abbrev pub invariant-loop-worker : goal.invariant-loop-worker
invariant-loop-worker l =
    (vec_len l.counters ≡ vec_len l.initial.counters)
    × (l.counters.items ≡ map stores_as_commits (take l.worker l.initial.counters.items) ++ drop l.worker l.initial.counters.items)
