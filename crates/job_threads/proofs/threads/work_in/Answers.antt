use Rattle.std.proofs.Common.{◌≡◌, ◌+◌, ◌<◌, ◌≤◌, [], ◌∷◌, length, vec_capacity, sym, ap, subst, ◌∙◌}
use Rattle.std.specs.List.{AllByRecursion, AllZip}
use Rattle.job_threads.proofs.ThreadLemmas.{err_as, first_and_rest, not_empty, one_zipped, room_of_first, room_of_rest}
use Rattle.job_threads.specs.{Threads.{IsUnstarted}, inner.Handles.{job_of}}
use Rattle.job_threads.proofs.threads.work_in.Goals as goal

pub returns-clause-answers : goal.returns-clause-answers
returns-clause-answers g c =
    let keeps = g.J.Job.keeps in let first = c.remove-first.result in
    let some : 0 < length c.args.jobs.items = subst (λ n. 0 < n) c.args.jobs.ok.0 (not_empty _ _ c.is_empty.ensures c.if-is_empty.false) in
    let none : length c.args.answers.items ≡ 0 = sym c.args.answers.ok.0 ∙ c.requires.room.0 in
    let all = first_and_rest c.args.jobs.items first some c.remove-first.ensures.value ∙ ap (λ js. first ∷ js) (sym c.remove-first.ensures.items ∙ sym c.in_ok-handles.ensures.started) in
    subst (λ js. AllZip keeps js c.join_all.result.items) (sym all)
    (c.join_all.ensures (first ∷ []) (one_zipped keeps first c.args.answers.items c.push_reserved.new.self.items c.work.result none c.push_reserved.ensures.items c.work.ensures))

pub remove-first-requires : goal.remove-first-requires
remove-first-requires g c = not_empty _ _ c.is_empty.ensures c.if-is_empty.false

pub push_reserved-requires : goal.push_reserved-requires
push_reserved-requires g c =
    let room = c.requires.room in
    room_of_first _ _ _ _ room.0 c.remove-first.ensures.len (subst (λ n. n ≤ vec_capacity c.args.answers) (sym c.args.jobs.ok.0) room.1)

pub join_all-requires : goal.join_all-requires
join_all-requires g c =
    let room = c.requires.room in let push = c.push_reserved.ensures in
    let handles = c.in_ok-handles.handles in
    let jobs = c.remove-first.new.self in record {
      room = room_of_rest job_of handles.items jobs.items _ _ _ _ _ _ _ room.0 push.len push.capacity handles.ok.0 c.in_ok-handles.ensures.started jobs.ok.0 c.remove-first.ensures.len
          (subst (λ n. n ≤ vec_capacity c.args.answers) (sym c.args.jobs.ok.0) room.1);
    }

pub returns-in_err-handles-clause-fault : goal.returns-in_err-handles-clause-fault
returns-in_err-handles-clause-fault g c =
    let fault = c.in_err-handles.field-0.0 in
    let all : length c.remove-first.new.self.items + 1 ≡ length c.args.jobs.items =
    ap (λ n. n + 1) (sym c.remove-first.new.self.ok.0) ∙ c.remove-first.ensures.len ∙ c.args.jobs.ok.0 in
    err_as c.from_residual.result fault (IsUnstarted (length c.args.jobs.items)) c.from_residual.ensures.1 (subst (λ n. IsUnstarted n fault) all c.in_err-handles.ensures.fault)

pub work-requires : goal.work-requires
work-requires g c =
    let some : 0 < length c.args.jobs.items = subst (λ n. 0 < n) c.args.jobs.ok.0 (not_empty _ _ c.is_empty.ensures c.if-is_empty.false) in
    (subst (AllByRecursion g.J.Job.can_work) (first_and_rest c.args.jobs.items c.remove-first.result some c.remove-first.ensures.value) c.requires.can).0
