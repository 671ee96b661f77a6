use Rattle.std.proofs.Common.{◌≡◌, ◌+◌, ◌++◌, take}
use Rattle.phase_workers.specs.Working.{calls_from, committed, stashed, hot_for, put_off, not_put_off, IsSamePermit}
use Rattle.phase_workers.proofs.worker.perform_quota.Given as goal

-- of the calls of the quota so far those that are not put off are committed, and the others wait
abbrev pub invariant-loop-place : goal.invariant-loop-place
invariant-loop-place g l =
    let old = l.fn.permit in let mid = l.permit in
    let calls = take l.place (calls_from l.first old.left l.script) in
    IsSamePermit old mid
    × (committed mid ≡ committed old ++ not_put_off (hot_for old) calls)
    × (stashed mid ≡ stashed old ++ put_off (hot_for old) calls)
    × (mid.left + l.place ≡ old.left)
    × (mid.tries ≡ old.tries + l.place)
