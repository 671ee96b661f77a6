use Rattle.std.proofs.Common.{◌≡◌, ◌++◌, [], map, take, drop, vec_len}
use Rattle.program_serving.proofs.limits.clear.Given as goal

abbrev pub invariant-loop-worker : goal.invariant-loop-worker
invariant-loop-worker l =
    (vec_len l.scripts ≡ vec_len l.initial.scripts)
    × (l.scripts.items ≡ map (λ script. []) (take l.worker l.initial.scripts.items) ++ drop l.worker l.initial.scripts.items)
