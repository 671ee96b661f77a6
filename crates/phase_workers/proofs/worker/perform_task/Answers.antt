use Rattle.std.proofs.Common.{ℕ, ◌+◌, ◌≤◌, Bool, true, false, cond, List, [], length, ap, arith}
use Rattle.std.proofs.lemmas.Result.{IfErr-weaker}
use Rattle.auction_rows.specs.declared.limits.TheConstants.{MOST_TRIES}
use Rattle.auction_rows.specs.declared.requests.Request.{Request}
use Rattle.phase_transactions.specs.Workers.{WorkerState}
use Rattle.phase_workers.proofs.WorkLemmas.{on_ok3, task_done, stopped_early, stopped_late}
use Rattle.phase_workers.specs.Tasks.{task, HasMetFault}
use Rattle.phase_workers.specs.Working.{calls_from, stashed, taken, HasStopped}
use Rattle.phase_workers.proofs.worker.perform_task.Goals as goal
use Rattle.job_threads.proofs.ThreadLemmas.{err_as}

room_for_taken : (takes : Bool) (calls : List (ℕ × Request)) (tries left : ℕ) → tries + length calls + left ≤ MOST_TRIES → tries + length (cond takes calls []) ≤ MOST_TRIES
room_for_taken true calls tries left is = omega arith
room_for_taken false calls tries left is = omega arith

pub perform_stash-requires-clause-tries : goal.perform_stash-requires-clause-tries
perform_stash-requires-clause-tries g c =
    let old : WorkerState = c.args.permit.now in
    room_for_taken g.K.Kind.IS_JOINED (stashed old) old.tries old.left c.requires.can.tries

pub returns-in_err-perform_stash-clause-stopped : goal.returns-in_err-perform_stash-clause-stopped
returns-in_err-perform_stash-clause-stopped g c =
    let old : WorkerState = c.args.permit.now in let takes : Bool = g.K.Kind.IS_JOINED in
    let new : WorkerState = c.perform_stash.new.permit in
    err_as c.from_residual.result c.in_err-perform_stash.field-0.0 (HasMetFault takes g.N.PhaseName.initial (task old c.args.script.now c.args.first) new) c.from_residual.ensures.1
    (stopped_early g.N.PhaseName.initial old old new c.in_err-perform_stash.field-0.0 takes (taken takes old)
    (calls_from c.args.first old.left c.args.script.now) c.in_err-perform_stash.ensures.stopped)

pub returns-clause-done : goal.returns-clause-done
returns-clause-done g c =
    let old : WorkerState = c.args.permit.now in
    let mid : WorkerState = c.perform_stash.new.permit in
    let stash = c.in_ok-perform_stash.ensures.done in let quota = c.perform_quota.ensures in
    on_ok3 c.perform_quota.result quota.same quota.calls quota.stash
    (task_done g.K.Kind.IS_JOINED c.args.script.now c.args.first old mid c.perform_quota.new.permit stash.same stash.go stash.calls stash.stash stash.left)

pub returns-clause-stopped : goal.returns-clause-stopped
returns-clause-stopped g c =
    let old : WorkerState = c.args.permit.now in
    let mid : WorkerState = c.perform_stash.new.permit in
    let new : WorkerState = c.perform_quota.new.permit in let takes : Bool = g.K.Kind.IS_JOINED in
    let stash = c.in_ok-perform_stash.ensures.done in
    let calls : List (ℕ × Request) = calls_from c.args.first mid.left c.args.script.now in
    IfErr-weaker c.perform_quota.result (HasStopped false g.N.PhaseName.initial calls mid new) (HasMetFault takes g.N.PhaseName.initial (task old c.args.script.now c.args.first) new)
    (λ fault. stopped_late g.N.PhaseName.initial old mid new fault takes calls (calls_from c.args.first old.left c.args.script.now)
    stash.go stash.calls stash.stash stash.same (ap (λ n. calls_from c.args.first n c.args.script.now) stash.left))
    c.perform_quota.ensures.stopped
