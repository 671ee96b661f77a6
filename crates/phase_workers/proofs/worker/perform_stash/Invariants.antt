use Rattle.std.proofs.Common.{◌≡◌, ◌+◌, ◌++◌, ◌≤◌, [], take, drop}
use Rattle.phase_workers.specs.Working.{committed, stashed, taken, still_waiting, hot_for, put_off, IsSamePermit}
use Rattle.phase_workers.proofs.worker.perform_stash.Given as goal

-- the first so many that are taken of the stash are committed, since none is to be put off, and the others wait
abbrev pub invariant-loop-call : goal.invariant-loop-call
invariant-loop-call g l =
    let old = l.fn.permit in let mid = l.permit in
    IsSamePermit old mid
    × (committed mid ≡ committed old ++ take l._call (taken g.K.Kind.IS_JOINED old))
    × (stashed mid ≡ still_waiting g.K.Kind.IS_JOINED old ++ drop l._call (taken g.K.Kind.IS_JOINED old))
    × (mid.left ≡ old.left)
    × (mid.tries ≤ old.tries + l._call)
    × (put_off (hot_for old) (take l._call (taken g.K.Kind.IS_JOINED old)) ≡ [])
