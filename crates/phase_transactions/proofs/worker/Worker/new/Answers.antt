use Rattle.phase_transactions.{proofs.StartLemmas.{start_lawful}, specs.Workers.{new_worker}}
use Rattle.phase_transactions.proofs.worker.Worker.new.Goals as goal

pub invariant_of-result : goal.invariant_of-result
invariant_of-result g c =
    let w = new_worker c.args.start.key c.args.start.opening c.args.start.counters c.args.start.journal c.args.start.stash c.args.start.slices c.args.start.quota c.args.start.clock in
    record {
      lawful = start_lawful w c.requires;
      worker_is = c.worker.ensures;
      shards_is = c.shards.ensures.count;
      some = c.shards.ensures.some;
    }
