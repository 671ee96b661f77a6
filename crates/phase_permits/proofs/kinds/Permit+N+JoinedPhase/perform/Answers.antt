use Rattle.std.proofs.Common.{◌≡◌, ◌<◌, Some, length, refl, sym, subst}
use Rattle.phase_transactions.specs.Performing.{HasCommittedSome}
use Rattle.phase_permits.specs.Dealing.{HasDealt}
use Rattle.phase_transactions.specs.Workers.{WorkerState, last_reply, with_try}
use Rattle.phase_permits.proofs.{LastLemmas.{some_entry, as_read}, RightLemmas.{model_reply}}
use Rattle.phase_permits.proofs.kinds.Permit+N+JoinedPhase.perform.Goals as goal

pub last_reply-requires : goal.last_reply-requires
last_reply-requires g c =
    let is = c.in_ok-commit.ensures in
    let done : HasCommittedSome g.N.PhaseName.initial (with_try c.args.self.now) c.commit.new.self c.args.request.now c.args.index =
    subst (HasDealt g.N.PhaseName.initial (with_try c.args.self.now) c.commit.new.self c.args.request.now c.args.index) (is.joined refl) is.dealt in
    subst (λ (w : WorkerState). 0 < length w.journal.entries) (sym c.self.view_is)
    (some_entry g.N.PhaseName.initial (with_try c.args.self.now) c.commit.new.self c.args.request.now c.args.index done.0 done.1)

pub returns-clause-committed : goal.returns-clause-committed
returns-clause-committed g c =
    let is = c.in_ok-commit.ensures in
    let done : HasCommittedSome g.N.PhaseName.initial (with_try c.args.self.now) c.commit.new.self c.args.request.now c.args.index =
    subst (HasDealt g.N.PhaseName.initial (with_try c.args.self.now) c.commit.new.self c.args.request.now c.args.index) (is.joined refl) is.dealt in
    as_read g.N.PhaseName.initial (with_try c.args.self.now) c.commit.new.self c.args.request.now c.args.index done.0 done.1 c.last_reply.result
    (subst (λ (w : WorkerState). last_reply w.journal.entries ≡ Some c.last_reply.result) c.self.view_is c.last_reply.ensures)

pub returns-clause-reply : goal.returns-clause-reply
returns-clause-reply g c = model_reply _ _ _ _ _ _ (returns-clause-committed g c)
