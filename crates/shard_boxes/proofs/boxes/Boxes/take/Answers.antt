use Rattle.std.proofs.Common.{sym, subst}
use Rattle.item_shards.specs.declared.shard.Shard.{Shard}
use Rattle.shard_boxes.specs.{Keys.{seen_at}, Lines.{IsShardHistory}, States.{state_of}}
use Rattle.shard_boxes.proofs.boxes.Boxes.take.Goals as goal

pub returns-clause-history : goal.returns-clause-history
returns-clause-history g c =
    let s = c.args.s in
    subst (λ (shard : Shard). IsShardHistory g.N.PhaseName.initial g.N.PhaseName.workers s (seen_at c.take-shard.new.self s) (state_of shard)) (sym c.new.ensures.shard) c.take-shard.ensures.history

pub take-shard-requires-clause-opened : goal.take-shard-requires-clause-opened
take-shard-requires-clause-opened g c = c.self.invariant.6
