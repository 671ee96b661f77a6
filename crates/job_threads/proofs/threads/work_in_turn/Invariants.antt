use Rattle.std.proofs.Common.{◌≡◌, ◌++◌, ◌+◌, ◌≤◌, List, vec_len, vec_capacity}
use Rattle.std.specs.{List.{AllByRecursion, AllZip}, Vec.Iter.{into_iter_items, into_iter_len}}
use Rattle.job_threads.proofs.threads.work_in_turn.Given as goal

-- the answers so far are what the jobs that are done owe, and the others can be done
abbrev pub invariant-loop-job : goal.invariant-loop-job
invariant-loop-job g l =
    ((done : List _) × (done ++ into_iter_items l.job-iterator ≡ l.fn.jobs.items) × AllZip g.J.Job.keeps done l.answers.items)
    × (vec_len l.answers + into_iter_len l.job-iterator ≤ vec_capacity l.answers)
    × AllByRecursion g.J.Job.can_work (into_iter_items l.job-iterator)
