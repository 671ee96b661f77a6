use Rattle.std.proofs.{Common.{◌+◌, length, ap, ◌∙◌}, lemmas.List.{length-append}}
use Rattle.run_phases.{proofs.ScriptLemmas.{one_stash_more}, specs.inner.Plans.{waiting_in}}
use Rattle.run_phases.proofs.course.no_stashes.Goals as goal

pub loop-worker-preserved : goal.loop-worker-preserved
loop-worker-preserved c = record {
  len = ap length c.in_ok-push.ensures.items ∙ length-append c.loop-worker.stashes.items _ ∙ ap (λ n. n + 1) c.loop-worker.invariant.len;
  none = λ w. ap (λ stashes. waiting_in stashes w) c.in_ok-push.ensures.items
      ∙ one_stash_more c.loop-worker.stashes.items _ c.in_ok-with_room.ensures.empty c.loop-worker.invariant.none w;
}
