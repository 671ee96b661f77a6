use Rattle.std.proofs.Common.{◌≡◌, ◌<◌, Bool, [], length, sym, ap, subst, ◌∙◌, arith}
use Rattle.auction_rows.specs.declared.limits.TheConstants.{MOST_TRIES}
use Rattle.phase_transactions.specs.Performing.{HasCommittedSome, HasFailed, HaveOpening}
use Rattle.phase_permits.specs.Dealing.{HasDealt, HasFailedFirst, HasPerformedFirstSome}
use Rattle.phase_transactions.specs.Workers.{WorkerState, with_first_unstashed, with_try}
use Rattle.phase_permits.specs.Kinds.{IsEmptyIf}
use Rattle.phase_permits.proofs.PermitLemmas.{back_permit, called_permit, tried_permit}
use Rattle.phase_permits.proofs.StashedLemmas.{failed_first, no_first, performed_first}
use Rattle.phase_permits.specs.inner.Permits.{IsPermit}
use Rattle.phase_permits.proofs.permit.Permit.commit_stashed.Goals as goal

pub unstash-requires : goal.unstash-requires
unstash-requires g c = record { joined = subst (λ (b : Bool). IsEmptyIf b c.self.inside.worker.slices) c.requires.joined c.self.invariant.0 }

pub count_try-requires : goal.count_try-requires
count_try-requires g c = record {
  few = subst (λ (w : WorkerState). w.tries < MOST_TRIES) (sym c.in_default.ensures.none) (subst (λ (w : WorkerState). w.tries < MOST_TRIES) (sym c.self.view_is) c.requires.tries);
}

pub invariant_of-self-in_default : goal.invariant_of-self-in_default
invariant_of-self-in_default g c =
    let joined = g.K.Kind.IS_JOINED in let shards = length g.N.PhaseName.initial in
    subst (IsPermit joined shards) (sym (c.count_try.ensures ∙ ap with_try c.in_default.ensures.none)) (tried_permit joined shards c.self.inside.worker c.self.invariant)

pub invariant_of-self : goal.invariant_of-self
invariant_of-self g c =
    let joined = g.K.Kind.IS_JOINED in let shards = length g.N.PhaseName.initial in
    subst (IsPermit joined shards) (sym c.in-Some.ensures.called) (called_permit joined shards c.self.inside.worker c.self.invariant)

pub commit-requires-clause-of : goal.commit-requires-clause-of
commit-requires-clause-of g c = ap (λ (w : WorkerState). w.key.boxes) (c.in-Some.ensures.called ∙ ap with_first_unstashed c.self.view_is) ∙ c.requires.of

pub commit-requires-clause-opening : goal.commit-requires-clause-opening
commit-requires-clause-opening g c = subst (λ (w : WorkerState). HaveOpening g.N.PhaseName.initial w.opening) (sym (c.in-Some.ensures.called ∙ ap with_first_unstashed c.self.view_is)) c.requires.opening

pub commit-requires-clause-left : goal.commit-requires-clause-left
commit-requires-clause-left g c = subst (λ (w : WorkerState). 0 < w.left) (sym c.in-Some.ensures.called) (omega arith)

pub commit-requires-clause-tries : goal.commit-requires-clause-tries
commit-requires-clause-tries g c = subst (λ (w : WorkerState). w.tries < MOST_TRIES) (sym (c.in-Some.ensures.called ∙ ap with_first_unstashed c.self.view_is)) c.requires.tries

pub restash-requires-clause-joined : goal.restash-requires-clause-joined
restash-requires-clause-joined g c = subst (λ (b : Bool). IsEmptyIf b c.self-2.inside.worker.slices) c.requires.joined c.self-2.invariant.0

pub invariant_of-self-in-Err : goal.invariant_of-self-in-Err
invariant_of-self-in-Err g c =
    let joined = g.K.Kind.IS_JOINED in let shards = length g.N.PhaseName.initial in
    back_permit joined shards c.restash.new.self (subst (IsPermit joined shards) c.restash.ensures.before c.self-2.invariant)

pub returns-in_default-clause-none : goal.returns-in_default-clause-none
returns-in_default-clause-none g c none = subst (λ (w : WorkerState). w.stash.requests ≡ []) c.self.view_is (no_first c.self.inside.worker.stash.requests c.in_default.ensures.first)

pub returns-in-Err-clause-failed : goal.returns-in-Err-clause-failed
returns-in-Err-clause-failed g c =
    let initial = g.N.PhaseName.initial in let inside = c.self.inside.worker in
    let request = c.in-Some.request in let fault = c.in-Err.fault in
    let failed = subst (λ (w : WorkerState). HasFailed initial (with_try w) c.commit.new.self request fault) c.in-Some.ensures.called c.in-Err.ensures.failed in
    subst (λ (w : WorkerState). HasFailedFirst initial (with_try w) c.restash.new.self fault) c.self.view_is
    (failed_first initial (with_try inside) c.self-2.inside.worker c.restash.new.self c.in-Some.index request fault c.in-Some.ensures.first c.in-Some.ensures.some
    (subst (λ (w : WorkerState). HasFailed initial (with_first_unstashed (with_try inside)) w request fault) (sym c.self-2.view_is) failed)
    c.restash.ensures.before c.restash.ensures.some)

pub returns-in-Ok-clause-performed : goal.returns-in-Ok-clause-performed
returns-in-Ok-clause-performed g c some =
    let initial = g.N.PhaseName.initial in let called = c.unstash.new.self in
    let is = c.in-Ok.ensures in
    let done : HasCommittedSome initial (with_try called) c.commit.new.self c.in-Some.request c.in-Some.index =
    subst (HasDealt initial (with_try called) c.commit.new.self c.in-Some.request c.in-Some.index) (is.joined c.requires.joined) is.dealt in
    subst (λ (w : WorkerState). HasPerformedFirstSome initial (with_try w) c.commit.new.self) c.self.view_is
    (performed_first initial c.self.inside.worker called c.commit.new.self c.in-Some.index c.in-Some.request c.in-Some.ensures.first c.in-Some.ensures.called done)
