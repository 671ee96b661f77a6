use Rattle.std.proofs.Common.{arith}
use Rattle.worker_journals.proofs.GrowthLemmas.{pushed_shown, pushed_kept, some_left}
use Rattle.worker_journals.proofs.RisingLemmas.{heads_pushed}
use Rattle.worker_journals.proofs.journal.Journal.push_answer.Goals as goal

pub push-requires : goal.push-requires
push-requires c = omega (arith, some_left _ _ _ _ _ c.self.view_is c.requires.room, c.self.invariant.0.room)

pub invariant_of-self : goal.invariant_of-self
invariant_of-self c =
    let kept = c.keep-short.ensures in (
      pushed_kept _ _ _ _ _ _ _ _ _ _ c.self.invariant.0 (some_left _ _ _ _ _ c.self.view_is c.requires.room) c.push.ensures.heads
          c.push.ensures.room kept.kept kept.reply _ c.self.view_is c.requires.after,
      (λ still.
          let both = c.still_rise-self-inside.ensures still in
          rw c.from.ensures (heads_pushed _ _ _ _ (c.self.invariant.1 both.0) both.1 c.push.ensures.heads)),
    )

pub returns : goal.returns
returns c =
    let kept = c.keep-short.ensures in record {
      pushed = pushed_shown _ _ _ _ _ _ _ _ _ _ c.self.invariant.0 (some_left _ _ _ _ _ c.self.view_is c.requires.room) c.push.ensures.heads
          c.push.ensures.room kept.kept kept.reply _ c.self.view_is;
    }
