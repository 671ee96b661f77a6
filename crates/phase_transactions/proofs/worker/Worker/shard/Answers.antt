use Rattle.std.proofs.Common.{◌<◌, sym, ap, subst, ◌∙◌}
use Rattle.auction_rows.specs.Requests.{shard_of}
use Rattle.phase_transactions.proofs.worker.Worker.shard.Goals as goal

pub shard_of-requires : goal.shard_of-requires
shard_of-requires g c = subst (λ n. 0 < n) (sym c.self.invariant.shards_is) c.self.invariant.some

pub returns : goal.returns
returns g c =
    let within = subst (λ n. c.shard_of.result < n) c.self.invariant.shards_is c.shard_of.ensures.within in
    record {
      home = λ hots cold. (c.shard_of.ensures.shard ∙ ap (shard_of c.args.object) c.self.invariant.shards_is, cold);
      known = within;
    }
