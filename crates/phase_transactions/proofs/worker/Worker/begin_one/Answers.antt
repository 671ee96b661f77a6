use Rattle.std.proofs.Common.{◌≤◌, List, ℕ, [], ◌∷◌, length, max, sym, subst}
use Rattle.item_shards.specs.CommitNumbers.{last_number}
use Rattle.phase_transactions.proofs.{BegunLemmas.{may_still}, ChainLemmas.{store_fails}}
use Rattle.phase_transactions.{proofs.TakeLemmas.{taken_held}, specs.Workers.{WorkerState}}
use Rattle.phase_transactions.specs.declared.fault.PermitFault.TheVariants.{NumberFull}
use Rattle.phase_transactions.specs.declared.taken.Taken.TheVariants as taken
use Rattle.phase_transactions.specs.inner.Begun.{MayBegin}
use Rattle.phase_transactions.specs.inner.Takens.{greatest_held, HasTakenAll}
use Rattle.phase_transactions.proofs.worker.Worker.begin_one.Goals as goal
use Rattle.worker_slices.specs.Homes.{shard_at}

pub returns-in-None-clause-full : goal.returns-in-None-clause-full
returns-in-None-clause-full g c = λ request homes on.
    let initial = g.N.PhaseName.initial in let workers = g.N.PhaseName.workers in
    let held = c.take_one-held.result in let key = c.take_one-held.new.key in
    let took = subst (λ (s : WorkerState). HasTakenAll initial workers s.key key (c.args.shard ∷ []) (held ∷ [])) c.self.view_is c.take_one-held.ensures in
    let its = subst (λ (shards : List ℕ). HasTakenAll initial workers c.args.self.now.key key shards (held ∷ [])) (sym on.only) took in
    store_fails {N = Unit {0}} initial c.args.self.now _ key request homes (taken.One held) its on.may.asked c.put_back.ensures NumberFull
    (λ i. record (c.self.view_is i) { key = c.put_back.new.key }) on.may.goes (subst (λ (s : WorkerState). last_number ≤ max s.clock (greatest_held (held ∷ []))) c.self.view_is c.in-None.ensures.full)

pub returns-in-Some-clause-begun : goal.returns-in-Some-clause-begun
returns-in-Some-clause-begun g c = λ request homes on.
    let initial = g.N.PhaseName.initial in let workers = g.N.PhaseName.workers in
    let held = c.take_one-held.result in let key = c.take_one-held.new.key in
    let took = subst (λ (s : WorkerState). HasTakenAll initial workers s.key key (c.args.shard ∷ []) (held ∷ [])) c.self.view_is c.take_one-held.ensures in
    let its = subst (λ (shards : List ℕ). HasTakenAll initial workers c.args.self.now.key key shards (held ∷ [])) (sym on.only) took in
    record {
      may = subst (λ (s : WorkerState). MayBegin (length initial) (record s { key = key }) request homes) (sym c.self.view_is) (may_still c.args.self.now key (length initial) request homes on.may);
      taken = its;
      held = taken_held (shard_at homes.item) (shard_at homes.other) its c.requires.ready.boxes_are;
      numbered = c.in-Some.ensures.number;
      within = c.in-Some.ensures.within;
    }
