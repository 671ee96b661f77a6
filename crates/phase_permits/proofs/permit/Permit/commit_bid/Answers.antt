use Rattle.std.proofs.Common.{rules, length, sym, ap, subst, ◌∙◌}
use Rattle.request_scripts.specs.Scripts.{request_of}
use Rattle.phase_permits.specs.Dealing.{IsUntouched}
use Rattle.phase_transactions.specs.Workers.{WorkerState, with_try}
use Rattle.phase_permits.proofs.PermitLemmas.{performed_permit, tried_permit}
use Rattle.phase_permits.{proofs.UntouchedLemmas.{leaves_untouched}, specs.inner.Permits.{IsPermit}}
use Rattle.phase_permits.proofs.permit.Permit.commit_bid.Goals as goal

pub invariant_of-self : goal.invariant_of-self
invariant_of-self g c =
    let joined = g.K.Kind.IS_JOINED in let shards = length g.N.PhaseName.initial in
    performed_permit joined g.N.PhaseName.initial c.count_try.new.self c.transact_bid.new.self (request_of c.args.bid.now) c.args.index c.transact_bid.result c.transact_bid.ensures
    (subst (IsPermit joined shards) (sym c.count_try.ensures) (tried_permit joined shards c.self.inside.worker c.self.invariant))

pub invariant_of-self-2 : goal.invariant_of-self-2
invariant_of-self-2 g c =
    let joined = g.K.Kind.IS_JOINED in let shards = length g.N.PhaseName.initial in
    performed_permit joined g.N.PhaseName.initial c.count_try.new.self c.transact_bid.new.self (request_of c.args.bid.now) c.args.index c.transact_bid.result c.transact_bid.ensures
    (subst (IsPermit joined shards) (sym c.count_try.ensures) (tried_permit joined shards c.self.inside.worker c.self.invariant))

pub returns-in_err-transact_bid-clause-untouched : goal.returns-in_err-transact_bid-clause-untouched
returns-in_err-transact_bid-clause-untouched g c =
    subst (λ (w : WorkerState). IsUntouched (length g.N.PhaseName.initial) w c.transact_bid.new.self (request_of c.args.bid.now)) (c.count_try.ensures ∙ ap with_try c.self.view_is)
    (leaves_untouched g.N.PhaseName.initial c.count_try.new.self c.transact_bid.new.self (request_of c.args.bid.now) c.args.index c.transact_bid.result c.transact_bid.ensures)

pub returns-clause-untouched : goal.returns-clause-untouched
returns-clause-untouched g c =
    subst (λ (w : WorkerState). IsUntouched (length g.N.PhaseName.initial) w c.transact_bid.new.self (request_of c.args.bid.now)) (c.count_try.ensures ∙ ap with_try c.self.view_is)
    (leaves_untouched g.N.PhaseName.initial c.count_try.new.self c.transact_bid.new.self (request_of c.args.bid.now) c.args.index c.transact_bid.result c.transact_bid.ensures)

pub transact_bid-requires : goal.transact_bid-requires
transact_bid-requires g c = search rules
