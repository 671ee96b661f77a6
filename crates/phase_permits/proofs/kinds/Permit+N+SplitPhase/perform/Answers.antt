use Rattle.std.proofs.Common.{◌≡◌, ◌<◌, Some, length, sym, subst}
use Rattle.phase_transactions.specs.Performing.{HasCommittedSome}
use Rattle.phase_permits.specs.Dealing.{HasDealt}
use Rattle.phase_transactions.specs.Workers.{WorkerState, last_reply, with_try}
use Rattle.phase_permits.proofs.{LastLemmas.{as_read, some_entry}, RightLemmas.{model_reply_read}}
use Rattle.phase_permits.proofs.kinds.Permit+N+SplitPhase.perform.Goals.{then-branch, else-branch}
use Rattle.phase_permits.proofs.kinds.Permit+N+SplitPhase.perform.Goals as goal

pub last_reply-requires : goal.last_reply-requires
last_reply-requires g c =
    let done : HasCommittedSome g.N.PhaseName.initial (with_try c.args.self.now) c.commit.new.self c.args.request.now c.args.index =
    subst (HasDealt g.N.PhaseName.initial (with_try c.args.self.now) c.commit.new.self c.args.request.now c.args.index) c.if-branch.true c.in_ok-commit.ensures.dealt in
    subst (λ (w : WorkerState). 0 < length w.journal.entries) (sym c.self.view_is)
    (some_entry g.N.PhaseName.initial (with_try c.args.self.now) c.commit.new.self c.args.request.now c.args.index done.0 done.1)

pub returns-clause-reply : goal.returns-clause-reply
returns-clause-reply g c = elim c.if-branch.branch [
  | then-branch w ↦
      let done : HasCommittedSome g.N.PhaseName.initial (with_try c.args.self.now) c.commit.new.self c.args.request.now c.args.index =
      subst (HasDealt g.N.PhaseName.initial (with_try c.args.self.now) c.commit.new.self c.args.request.now c.args.index) w.if-branch.true c.in_ok-commit.ensures.dealt in
      rw w.result-is
      (model_reply_read g.N.PhaseName.initial (with_try c.args.self.now) c.commit.new.self c.args.request.now c.args.index w.last_reply.result done
      (subst (λ (s : WorkerState). last_reply s.journal.entries ≡ Some w.last_reply.result) c.self.view_is w.last_reply.ensures))
  | else-branch w ↦ rw w.result-is tt
]

pub returns-clause-dealt : goal.returns-clause-dealt
returns-clause-dealt g c = elim c.if-branch.branch [
  | then-branch w ↦
      let done : HasCommittedSome g.N.PhaseName.initial (with_try c.args.self.now) c.commit.new.self c.args.request.now c.args.index =
      subst (HasDealt g.N.PhaseName.initial (with_try c.args.self.now) c.commit.new.self c.args.request.now c.args.index) w.if-branch.true c.in_ok-commit.ensures.dealt in
      rw w.result-is
      (as_read g.N.PhaseName.initial (with_try c.args.self.now) c.commit.new.self c.args.request.now c.args.index done.0 done.1 w.last_reply.result
      (subst (λ (s : WorkerState). last_reply s.journal.entries ≡ Some w.last_reply.result) c.self.view_is w.last_reply.ensures))
  | else-branch w ↦
      rw w.result-is
      (subst (HasDealt g.N.PhaseName.initial (with_try c.args.self.now) c.commit.new.self c.args.request.now c.args.index) w.if-branch.false c.in_ok-commit.ensures.dealt)
]
