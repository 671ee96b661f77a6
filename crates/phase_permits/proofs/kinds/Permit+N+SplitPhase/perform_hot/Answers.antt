use Rattle.std.{proofs.Common.{length, sym, ap, subst}, specs.Prelude.{is_some}}
use Rattle.worker_slices.specs.Homes.{IsHotStore}
use Rattle.phase_transactions.proofs.EmptyLemmas.{hot_commits}
use Rattle.phase_transactions.specs.Performing.{hot_request, HasCommitted, HasCommittedSome}
use Rattle.phase_transactions.specs.Workers.{WorkerState, IsExplained}
use Rattle.phase_permits.proofs.{LastLemmas.{some_entry, as_read}, PermitLemmas.{commit_explained}}
use Rattle.phase_permits.proofs.RightLemmas.{model_reply}
use Rattle.phase_permits.proofs.kinds.Permit+N+SplitPhase.perform_hot.Goals as goal

pub invariant_of-self : goal.invariant_of-self
invariant_of-self g c = (tt, subst (IsExplained (length g.N.PhaseName.initial)) (sym c.in_err-perform_hot.ensures.unchanged) c.self.invariant.1)

pub last_reply-requires : goal.last_reply-requires
last_reply-requires g c =
    let some : HasCommittedSome g.N.PhaseName.initial c.self.inside.worker c.perform_hot.new.self (hot_request c.args.store) c.args.index =
    hot_commits g.N.PhaseName.initial c.self.inside.worker c.perform_hot.new.self (hot_request c.args.store) c.args.index c.self.invariant.1.idle
    (subst (λ (w : WorkerState). IsHotStore w.slices (hot_request c.args.store)) (sym c.self.view_is) c.requires.hot) c.perform_hot.result c.perform_hot.ensures.none (ap is_some c.in_ok-perform_hot.was) c.perform_hot.ensures.stored in
    some_entry g.N.PhaseName.initial c.self.inside.worker c.perform_hot.new.self (hot_request c.args.store) c.args.index some.0 some.1

pub invariant_of-self-2 : goal.invariant_of-self-2
invariant_of-self-2 g c =
    let some : HasCommittedSome g.N.PhaseName.initial c.self.inside.worker c.perform_hot.new.self (hot_request c.args.store) c.args.index =
    hot_commits g.N.PhaseName.initial c.self.inside.worker c.perform_hot.new.self (hot_request c.args.store) c.args.index c.self.invariant.1.idle
    (subst (λ (w : WorkerState). IsHotStore w.slices (hot_request c.args.store)) (sym c.self.view_is) c.requires.hot) c.perform_hot.result c.perform_hot.ensures.none (ap is_some c.in_ok-perform_hot.was) c.perform_hot.ensures.stored in
    (tt, commit_explained g.N.PhaseName.initial c.self.inside.worker c.perform_hot.new.self (hot_request c.args.store) c.args.index some.0 some.1 c.self.invariant.1)

pub returns-clause-committed : goal.returns-clause-committed
returns-clause-committed g c =
    let old = c.self.inside.worker in let new = c.perform_hot.new.self in
    let some : HasCommittedSome g.N.PhaseName.initial old new (hot_request c.args.store) c.args.index =
    hot_commits g.N.PhaseName.initial old new (hot_request c.args.store) c.args.index c.self.invariant.1.idle
    (subst (λ (w : WorkerState). IsHotStore w.slices (hot_request c.args.store)) (sym c.self.view_is) c.requires.hot) c.perform_hot.result c.perform_hot.ensures.none (ap is_some c.in_ok-perform_hot.was) c.perform_hot.ensures.stored in
    subst (λ (w : WorkerState). HasCommitted g.N.PhaseName.initial w new (hot_request c.args.store) c.args.index c.last_reply.result) c.self.view_is (as_read g.N.PhaseName.initial old new (hot_request c.args.store) c.args.index some.0 some.1 c.last_reply.result c.last_reply.ensures)

pub returns-clause-reply : goal.returns-clause-reply
returns-clause-reply g c = model_reply _ _ _ _ _ _ (returns-clause-committed g c)
