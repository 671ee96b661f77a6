use Rattle.std.proofs.Common.{◌≡◌, false, ◌+◌, ◌<◌, ◌≤◌, ◌++◌, ◌∷◌, [], ℕ, not, List, take, take_all, drop, add-zero, append-nil, le_of_eq, sym, ap, subst, ◌∙◌, arith}
use Rattle.std.proofs.lemmas.{List.{length-take}, Option.{get_or_from_slice_get}}
use Rattle.auction_rows.specs.Phases.{is_put_off}
use Rattle.auction_rows.specs.declared.requests.{Object.Object, Request.Request}
use Rattle.phase_transactions.specs.{Performing.{HaveOpening}, Workers.{WorkerState}}
use Rattle.run_laws.{proofs.QuotaLemmas.{next_call}, specs.Turns.{numbered}}
use Rattle.phase_workers.proofs.WorkLemmas.{same, same_after, kept_more, request_there, within_script, some_left, try_left, stopped_next}
use Rattle.phase_workers.specs.Working.{calls_from, committed, stashed, hot_for, put_off, not_put_off, HasStopped}
use Rattle.phase_workers.proofs.worker.perform_quota.Goals as goal
use Rattle.job_threads.proofs.ThreadLemmas.{err_as}

pub loop-place-preserved : goal.loop-place-preserved
loop-place-preserved g c =
    let was = c.loop-place.invariant in let old : WorkerState = c.args.permit.now in
    let mid : WorkerState = c.loop-place.permit in
    let new : WorkerState = c.perform_next.new.permit in let first : ℕ = c.args.first in
    let k : ℕ = c.loop-place.place in
    let calls : List (ℕ × Request) = calls_from c.args.first old.left c.args.script.now in
    let less : c.loop-place.place < old.left = subst (λ n. c.loop-place.place < n) c.left-place-end.ensures c.loop-place-test.true in
    let there = request_there c.args.script.now (first + k) (within_script _ _ _ _ less c.requires.given) in
    let request : Request = there.0 in
    let next : take (k + 1) calls ≡ take k calls ++ (first + k, request) ∷ [] =
    next_call first old.left k c.args.script.now request less c.requires.given
    (sym (get_or_from_slice_get c.args.script.now (first + k) request request there.1)) in
    let step = c.in_ok-perform_next.ensures.dealt request there.1 in (
      same_after old mid new was.0 step.same,
      kept_more (λ call. not (is_put_off (hot_for old) call.1)) (committed mid) (take k calls) (committed new) (committed old) (take (k + 1) calls) (first + k, request)
          (subst (λ (hot : List Object). committed new ≡ committed mid ++ not_put_off hot ((first + k, request) ∷ [])) was.0.hot step.calls) was.1 next,
      kept_more (λ call. is_put_off (hot_for old) call.1) (stashed mid) (take k calls) (stashed new) (stashed old) (take (k + 1) calls) (first + k, request)
          (subst (λ (hot : List Object). stashed new ≡ stashed mid ++ put_off hot ((first + k, request) ∷ [])) was.0.hot step.stash) was.2 next,
      omega (arith, step.left, was.3, less),
      omega (arith, step.tries, was.4),
    )

pub returns-in_err-perform_next-clause-stopped : goal.returns-in_err-perform_next-clause-stopped
returns-in_err-perform_next-clause-stopped g c =
    let was = c.loop-place.invariant in let old : WorkerState = c.args.permit.now in
    let first : ℕ = c.args.first in let k : ℕ = c.loop-place.place in
    let calls : List (ℕ × Request) = calls_from c.args.first old.left c.args.script.now in
    let less : c.loop-place.place < old.left = subst (λ n. c.loop-place.place < n) c.left-place-end.ensures c.loop-place-test.true in
    let there = request_there c.args.script.now (first + k) (within_script _ _ _ _ less c.requires.given) in
    let request : Request = there.0 in
    let next : take (k + 1) calls ≡ take k calls ++ (first + k, request) ∷ [] =
    next_call first old.left k c.args.script.now request less c.requires.given
    (sym (get_or_from_slice_get c.args.script.now (first + k) request request there.1)) in
    let new : WorkerState = c.perform_next.new.permit in
    err_as c.from_residual.result c.in_err-perform_next.field-0.0 (HasStopped false g.N.PhaseName.initial calls old new) c.from_residual.ensures.1
    (stopped_next g.N.PhaseName.initial old c.loop-place.permit new c.in_err-perform_next.field-0.0 k calls (first + k, request) next
    was.0 was.1 was.2 (c.in_err-perform_next.ensures.failed request there.1))

pub loop-place-init : goal.loop-place-init
loop-place-init g c =
    let old : WorkerState = c.args.permit.now in
    (same old, sym (append-nil (committed old)), sym (append-nil (stashed old)), add-zero _, sym (add-zero _))

pub perform_next-requires-clause-within : goal.perform_next-requires-clause-within
perform_next-requires-clause-within g c =
    within_script _ _ _ _ (subst (λ n. c.loop-place.place < n) c.left-place-end.ensures c.loop-place-test.true) c.requires.given

pub perform_next-requires-clause-of : goal.perform_next-requires-clause-of
perform_next-requires-clause-of g c = c.loop-place.invariant.0.boxes ∙ c.requires.of

pub perform_next-requires-clause-opening : goal.perform_next-requires-clause-opening
perform_next-requires-clause-opening g c = subst (HaveOpening g.N.PhaseName.initial) (sym c.loop-place.invariant.0.opening) c.requires.opening

pub perform_next-requires-clause-left : goal.perform_next-requires-clause-left
perform_next-requires-clause-left g c = some_left _ _ _ c.loop-place.invariant.3 (subst (λ n. c.loop-place.place < n) c.left-place-end.ensures c.loop-place-test.true)

pub perform_next-requires-clause-tries : goal.perform_next-requires-clause-tries
perform_next-requires-clause-tries g c = try_left _ _ _ _ _ (le_of_eq c.loop-place.invariant.4) (subst (λ n. c.loop-place.place < n) c.left-place-end.ensures c.loop-place-test.true) c.requires.tries

whole : (place left : ℕ) (calls : List (ℕ × Request)) → left ≤ place → take place (take left calls) ≡ take left calls
whole place left calls past = take_all place (take left calls) (omega (arith, length-take left calls, past))

pub returns-clause-same : goal.returns-clause-same
returns-clause-same g c = c.loop-place.invariant.0

pub returns-clause-calls : goal.returns-clause-calls
returns-clause-calls g c =
    let old : WorkerState = c.args.permit.now in
    c.loop-place.invariant.1 ∙ ap (λ calls. committed old ++ not_put_off (hot_for old) calls)
    (whole c.loop-place.place old.left (drop c.args.first (numbered 0 c.args.script.now)) (subst (λ n. n ≤ c.loop-place.place) c.left-place-end.ensures c.loop-place-test.false))

pub returns-clause-stash : goal.returns-clause-stash
returns-clause-stash g c =
    let old : WorkerState = c.args.permit.now in
    c.loop-place.invariant.2 ∙ ap (λ calls. stashed old ++ put_off (hot_for old) calls)
    (whole c.loop-place.place old.left (drop c.args.first (numbered 0 c.args.script.now)) (subst (λ n. n ≤ c.loop-place.place) c.left-place-end.ensures c.loop-place-test.false))
