use Rattle.std.proofs.Common.{ap, subst, arith}
use Rattle.shard_boxes.specs.declared.limits.TheConstants.{MOST_COMMITS}
use Rattle.worker_slices.proofs.FewLemmas.{few_more}
use Rattle.phase_transactions.specs.Workers.{WorkerState, IsLawfulWorker}
use Rattle.phase_transactions.proofs.worker.Worker.parts.Goals as goal

pub returns-clause-counters : goal.returns-clause-counters
returns-clause-counters g c = ap (λ (w : WorkerState). w.counters) c.self.view_is

pub returns-clause-few : goal.returns-clause-few
returns-clause-few g c =
    let is = subst IsLawfulWorker c.self.view_is c.self.invariant.lawful in
    let limit = is.room.limit in
    few_more c.args.self.counters.commits MOST_COMMITS c.args.self.slices (omega (arith, limit)) is.few
