use Rattle.std.{proofs.Common.{◌++◌, map, ap, ◌∙◌}, specs.Vec.Iter.{into_iter_items}}
use Rattle.phase_workers.proofs.TaskLemmas.{receipt_more, fault_more}
use Rattle.phase_workers.specs.inner.Answers.{done_by_all, receipt_in}
use Rattle.phase_workers.proofs.round.receipts_of.Goals as goal
use Rattle.job_threads.proofs.ThreadLemmas.{none_left, room_at_first, room_for_one, room_after}

pub loop-answer-preserved : goal.loop-answer-preserved
loop-answer-preserved g c =
    let was = c.loop-answer.invariant in let step = c.in-Some.ensures.steps in
    let push = c.push_reserved.ensures in (
      receipt_more c.loop-answer.receipts.items c.push_reserved.new.self.items c.in-Some.answer (into_iter_items c.loop-answer.answer-iterator) (into_iter_items c.next.new.self) c.args.answers.items
          step.0 push.items was.0,
      fault_more c.loop-answer.done c.and-done.result c.in-Some.answer (into_iter_items c.loop-answer.answer-iterator) (into_iter_items c.next.new.self) c.args.answers.items
          step.0 c.and-done.ensures was.1,
      room_after _ _ _ _ _ _ step.1 was.2 push.len push.capacity,
    )

pub loop-answer-init : goal.loop-answer-init
loop-answer-init g c =
    let gives = c.into_iter-answer-iterator.ensures.into_iter_gives in
    let receipts = c.args.receipts in (
      (λ i. none_left receipts.items _ receipts.ok.0 c.requires.empty i ++ map receipt_in (into_iter_items c.into_iter-answer-iterator.result)) ∙ ap (map receipt_in) gives.0,
      ap done_by_all gives.0,
      room_at_first _ _ _ _ c.requires.empty gives.1 c.requires.room,
    )

pub push_reserved-requires : goal.push_reserved-requires
push_reserved-requires g c = room_for_one _ _ _ _ c.in-Some.ensures.steps.1 c.loop-answer.invariant.2
