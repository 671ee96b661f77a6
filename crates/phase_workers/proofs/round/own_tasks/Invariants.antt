use Rattle.std.proofs.Common.{◌≡◌, ◌+◌, ◌≤◌, ◌++◌, map, drop, length, vec_len, vec_capacity}
use Rattle.std.specs.{List.{AllByRecursion}, Vec.Iter.{into_iter_items, into_iter_len}}
use Rattle.phase_workers.specs.{Tasks.{task, tasks, CanBeDone}, Working.{IsPermitOf, ArePermitsOf}}
use Rattle.phase_workers.proofs.round.own_tasks.Given as goal

-- the tasks so far and those to be made are the workers', in order
abbrev pub invariant-loop-permit : goal.invariant-loop-permit
invariant-loop-permit g l =
    (vec_len l.made + into_iter_len l.permits ≡ length l.round.scripts.now)
    × (length l.round.scripts.now ≤ vec_capacity l.made)
    × AllByRecursion (CanBeDone g.N.PhaseName.initial l.boxes)
    (tasks (into_iter_items l.permits) (drop (vec_len l.made) l.round.scripts.now) l.round.first)
    × AllByRecursion (λ own. CanBeDone g.N.PhaseName.initial own.post.boxes.now (task own.permit own.script.now own.first)
    × IsPermitOf own.post.phase own.post.worker own.permit) l.made.items
    × (map (λ own. task own.permit own.script.now own.first) l.made.items
    ++ tasks (into_iter_items l.permits) (drop (vec_len l.made) l.round.scripts.now) l.round.first
    ≡ tasks l.fn.permits.items l.round.scripts.now l.round.first)
    × ArePermitsOf l.round.phase (vec_len l.made) (into_iter_items l.permits)

abbrev pub decreases-loop-permit : goal.decreases-loop-permit
decreases-loop-permit g l = into_iter_len l.permits
