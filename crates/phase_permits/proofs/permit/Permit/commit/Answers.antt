use Rattle.std.proofs.Common.{rules, length, sym, ap, subst, ◌∙◌}
use Rattle.phase_permits.specs.Dealing.{IsUntouched}
use Rattle.phase_transactions.specs.Workers.{WorkerState, with_try}
use Rattle.phase_permits.specs.Kinds.{IsEmptyIf}
use Rattle.phase_permits.proofs.PermitLemmas.{not_put_off, off_permit, performed_permit, tried_permit}
use Rattle.phase_permits.{proofs.UntouchedLemmas.{leaves_untouched}, specs.inner.Permits.{IsPermit}}
use Rattle.phase_permits.proofs.permit.Permit.commit.Goals as goal

pub invariant_of-self : goal.invariant_of-self
invariant_of-self g c =
    let joined = g.K.Kind.IS_JOINED in let shards = length g.N.PhaseName.initial in
    subst (IsPermit joined shards) (sym c.put_off.ensures)
    (off_permit joined shards c.count_try.new.self c.args.index c.args.request.now (subst (IsPermit joined shards) (sym c.count_try.ensures) (tried_permit joined shards c.self.inside.worker c.self.invariant)))

pub invariant_of-self-2 : goal.invariant_of-self-2
invariant_of-self-2 g c =
    let joined = g.K.Kind.IS_JOINED in let shards = length g.N.PhaseName.initial in
    performed_permit joined g.N.PhaseName.initial c.count_try.new.self c.transact.new.self c.args.request.now c.args.index c.transact.result c.transact.ensures
    (subst (IsPermit joined shards) (sym c.count_try.ensures) (tried_permit joined shards c.self.inside.worker c.self.invariant))

pub returns-then-is_put_off-clause-joined : goal.returns-then-is_put_off-clause-joined
returns-then-is_put_off-clause-joined g c joined =
    let kind = g.K.Kind.IS_JOINED in
    let cold = subst (λ (w : WorkerState). IsEmptyIf kind w.slices) (sym c.count_try.ensures) c.self.invariant.0 in
    sym (not_put_off kind c.count_try.new.self.slices c.args.request.now cold joined) ∙ sym c.is_put_off.ensures ∙ c.if-is_put_off.true

pub returns-in_err-transact-clause-untouched : goal.returns-in_err-transact-clause-untouched
returns-in_err-transact-clause-untouched g c =
    subst (λ (w : WorkerState). IsUntouched (length g.N.PhaseName.initial) w c.transact.new.self c.args.request.now) (c.count_try.ensures ∙ ap with_try c.self.view_is)
    (leaves_untouched g.N.PhaseName.initial c.count_try.new.self c.transact.new.self c.args.request.now c.args.index c.transact.result c.transact.ensures)

pub returns-clause-untouched : goal.returns-clause-untouched
returns-clause-untouched g c =
    subst (λ (w : WorkerState). IsUntouched (length g.N.PhaseName.initial) w c.transact.new.self c.args.request.now) (c.count_try.ensures ∙ ap with_try c.self.view_is)
    (leaves_untouched g.N.PhaseName.initial c.count_try.new.self c.transact.new.self c.args.request.now c.args.index c.transact.result c.transact.ensures)

pub transact-requires : goal.transact-requires
transact-requires g c = search rules
