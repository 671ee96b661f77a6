use Rattle.std.proofs.Common.{◌≡◌, ℕ, ◌+◌, ◌<◌, ◌≤◌, Bool, true, false, cond, List, [], ◌++◌, ◌∙◌, refl, sym, ap, subst, take, drop, add-zero, le_of_eq, arith}
use Rattle.std.proofs.lemmas.List.{append-nil, take_all, drop_all}
use Rattle.auction_rows.specs.declared.requests.Request.{Request}
use Rattle.phase_transactions.specs.{Performing.{HaveOpening}, Workers.{WorkerState}}
use Rattle.phase_workers.proofs.WorkLemmas.{same, same_after, takes_some, stash_goes, stash_more, stash_less, stopped_first, try_left, tries_by}
use Rattle.phase_workers.specs.Working.{committed, stashed, taken, still_waiting, hot_for, put_off, HasStopped}
use Rattle.phase_workers.specs.inner.Steps.{HasPerformedWaiting}
use Rattle.phase_workers.proofs.worker.perform_stash.Goals as goal
use Rattle.job_threads.proofs.ThreadLemmas.{err_as}

pub loop-call-preserved : goal.loop-call-preserved
loop-call-preserved g c =
    let was = c.loop-call.invariant in let takes : Bool = g.K.Kind.IS_JOINED in
    let old : WorkerState = c.args.permit.now in let mid : WorkerState = c.loop-call.permit in
    let new : WorkerState = c.perform_first.new.permit in let k : ℕ = c.loop-call._call in
    let own : List (ℕ × Request) = taken takes old in
    let yes : takes ≡ true = takes_some takes old k (subst (λ n. c.loop-call._call < n) c.waiting-call-end.ensures c.loop-call-test.true) in
    let step : HasPerformedWaiting true mid new = subst (λ t. HasPerformedWaiting t mid new) yes c.in_ok-perform_first.ensures.performed in
    let waits : stashed mid ≡ drop k own = was.2 ∙ ap (λ t. still_waiting t old ++ drop k own) yes in (
      same_after old mid new was.0 step.same,
      stash_more k own (committed mid) (committed old) (committed new) (step.calls ∙ ap (λ ss. committed mid ++ take 1 ss) waits) was.1,
      stash_less k own (stashed mid) (stashed new) step.stash waits ∙ sym (ap (λ t. still_waiting t old ++ drop (k + 1) own) yes),
      step.left ∙ was.3,
      omega (arith, step.tries, was.4),
      stash_goes (hot_for old) (hot_for mid) k own (stashed mid) was.0.hot waits was.5 step.goes,
    )

pub returns-clause-done : goal.returns-clause-done
returns-clause-done g c =
    let was = c.loop-call.invariant in let old : WorkerState = c.args.permit.now in
    let own : List (ℕ × Request) = taken g.K.Kind.IS_JOINED old in
    let rest : List (ℕ × Request) = still_waiting g.K.Kind.IS_JOINED old in
    let all = subst (λ n. n ≤ c.loop-call._call) c.waiting-call-end.ensures c.loop-call-test.false in
    record {
      same = was.0;
      go = ap (put_off (hot_for old)) (sym (take_all c.loop-call._call own all)) ∙ was.5;
      calls = was.1 ∙ ap (λ ss. committed old ++ ss) (take_all c.loop-call._call own all);
      stash = was.2 ∙ ap (λ ss. rest ++ ss) (drop_all c.loop-call._call own all) ∙ append-nil rest;
      left = was.3;
      tries = tries_by _ _ _ _ was.4 (subst (λ n. c.loop-call._call ≤ n) c.waiting-call-end.ensures c.loop-call.auto._call-end);
    }

pub returns-in_err-perform_first-clause-stopped : goal.returns-in_err-perform_first-clause-stopped
returns-in_err-perform_first-clause-stopped g c =
    let was = c.loop-call.invariant in let takes : Bool = g.K.Kind.IS_JOINED in
    let old : WorkerState = c.args.permit.now in
    let new : WorkerState = c.perform_first.new.permit in
    err_as c.from_residual.result c.in_err-perform_first.field-0.0 (HasStopped takes g.N.PhaseName.initial (taken takes old) old new) c.from_residual.ensures.1
    (stopped_first g.N.PhaseName.initial old c.loop-call.permit new c.in_err-perform_first.field-0.0 takes c.loop-call._call
    (takes_some takes old c.loop-call._call (subst (λ n. c.loop-call._call < n) c.waiting-call-end.ensures c.loop-call-test.true))
    was.0 was.1 was.2 was.5 c.in_err-perform_first.ensures.failed)

pub perform_first-requires-clause-joined : goal.perform_first-requires-clause-joined
perform_first-requires-clause-joined g c =
    takes_some g.K.Kind.IS_JOINED c.args.permit.now c.loop-call._call (subst (λ n. c.loop-call._call < n) c.waiting-call-end.ensures c.loop-call-test.true)

pub perform_first-requires-clause-of : goal.perform_first-requires-clause-of
perform_first-requires-clause-of g c = c.loop-call.invariant.0.boxes ∙ c.requires.of

pub perform_first-requires-clause-opening : goal.perform_first-requires-clause-opening
perform_first-requires-clause-opening g c = subst (HaveOpening g.N.PhaseName.initial) (sym c.loop-call.invariant.0.opening) c.requires.opening

pub perform_first-requires-clause-tries : goal.perform_first-requires-clause-tries
perform_first-requires-clause-tries g c = try_left _ _ _ _ _ c.loop-call.invariant.4 (subst (λ n. c.loop-call._call < n) c.waiting-call-end.ensures c.loop-call-test.true) c.requires.tries

both_parts : (takes : Bool) (calls : List (ℕ × Request)) → calls ≡ cond takes [] calls ++ cond takes calls []
both_parts true calls = refl
both_parts false calls = sym (append-nil calls)

pub loop-call-init : goal.loop-call-init
loop-call-init g c =
    let old : WorkerState = c.args.permit.now in
    (same old, sym (append-nil (committed old)), both_parts g.K.Kind.IS_JOINED (stashed old), refl, le_of_eq (sym (add-zero _)), refl)
