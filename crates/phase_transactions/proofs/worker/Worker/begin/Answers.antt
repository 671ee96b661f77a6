use Rattle.std.proofs.Common.{◌≤◌, length, max, sym, subst}
use Rattle.item_shards.specs.CommitNumbers.{last_number}
use Rattle.phase_transactions.proofs.{BegunLemmas.{may_still}, ChainLemmas.{store_fails}}
use Rattle.phase_transactions.{proofs.TakeLemmas.{taken_held}, specs.Workers.{WorkerState}}
use Rattle.phase_transactions.specs.declared.fault.PermitFault.TheVariants.{NumberFull}
use Rattle.phase_transactions.specs.inner.Begun.{MayBegin}
use Rattle.phase_transactions.specs.inner.Takens.{footprint_of, greatest_held, held_in, HasTakenAll}
use Rattle.phase_transactions.proofs.worker.Worker.begin.Goals as goal
use Rattle.worker_slices.specs.Homes.{shard_at}

pub returns-in-None-clause-full : goal.returns-in-None-clause-full
returns-in-None-clause-full g c = λ request may.
    let took = c.take_all-taken.result in
    let its = subst (λ (s : WorkerState). HasTakenAll g.N.PhaseName.initial g.N.PhaseName.workers s.key c.take_all-taken.new.key (footprint_of c.args.homes.now) (held_in took)) c.self.view_is c.take_all-taken.ensures in
    store_fails g.N.PhaseName.initial c.args.self.now _ c.take_all-taken.new.key request c.args.homes.now took its may.asked c.put_back.ensures NumberFull
    (λ i. record (c.self.view_is i) { key = c.put_back.new.key }) may.goes (subst (λ (s : WorkerState). last_number ≤ max s.clock (greatest_held (held_in took))) c.self.view_is c.in-None.ensures.full)

pub returns-in-Some-clause-begun : goal.returns-in-Some-clause-begun
returns-in-Some-clause-begun g c = λ request may.
    let initial = g.N.PhaseName.initial in let homes = c.args.homes.now in
    let taken = c.take_all-taken.new.key in
    let its = subst (λ (s : WorkerState). HasTakenAll initial g.N.PhaseName.workers s.key taken (footprint_of homes) (held_in c.take_all-taken.result)) c.self.view_is c.take_all-taken.ensures in
    record {
      may = subst (λ (s : WorkerState). MayBegin (length initial) (record s { key = taken }) request homes) (sym c.self.view_is) (may_still c.args.self.now taken (length initial) request homes may);
      taken = its;
      held = taken_held (shard_at homes.item) (shard_at homes.other) its c.requires.ready.boxes_are;
      numbered = c.in-Some.ensures.number;
      within = c.in-Some.ensures.within;
    }
