use Rattle.std.proofs.Common.{◌≤◌, [], vec_capacity, sym, subst}
use Rattle.std.specs.{List.{AllByRecursion, AllZip}, Vec.Iter.{into_iter_items}}
use Rattle.job_threads.proofs.ThreadLemmas.{worked_more, none_left, all_done, room_at_first, room_for_one, room_after}
use Rattle.job_threads.proofs.threads.work_in_turn.Goals as goal

pub loop-job-init : goal.loop-job-init
loop-job-init g c =
    let gives = c.into_iter-job-iterator.ensures.into_iter_gives in
    let empty = c.in_ok-answers.ensures in (
      ([], gives.0, subst (AllZip g.J.Job.keeps []) (sym empty.items) tt),
      room_at_first _ _ _ _ empty.len gives.1 (subst (λ n. n ≤ vec_capacity c.in_ok-answers.answers) c.len.ensures empty.capacity),
      subst (AllByRecursion g.J.Job.can_work) (sym gives.0) c.requires,
    )

pub work-requires : goal.work-requires
work-requires g c = (subst (AllByRecursion g.J.Job.can_work) c.in-Some.ensures.steps.0 c.loop-job.invariant.2).0

pub push_reserved-requires : goal.push_reserved-requires
push_reserved-requires g c = room_for_one _ _ _ _ c.in-Some.ensures.steps.1 c.loop-job.invariant.1

pub loop-job-preserved : goal.loop-job-preserved
loop-job-preserved g c =
    let was = c.loop-job.invariant in let step = c.in-Some.ensures.steps in
    let push = c.push_reserved.ensures in (
      worked_more g.J.Job.keeps c.args.jobs.items (into_iter_items c.loop-job.job-iterator) (into_iter_items c.next.new.self) c.in-Some.job
          c.loop-job.answers.items c.push_reserved.new.self.items c.work.result step.0 push.items c.work.ensures was.0,
      room_after _ _ _ _ _ _ step.1 was.1 push.len push.capacity,
      (subst (AllByRecursion g.J.Job.can_work) step.0 was.2).1,
    )

pub returns : goal.returns
returns g c =
    let done = c.loop-job.invariant.0 in let left = c.loop-job.job-iterator.rest in
    subst (λ jobs. AllZip g.J.Job.keeps jobs c.loop-job.answers.items)
    (all_done done.0 left.items c.args.jobs.items (none_left left.items _ left.ok.0 c.in-None.ensures.steps.0) done.1) done.2
