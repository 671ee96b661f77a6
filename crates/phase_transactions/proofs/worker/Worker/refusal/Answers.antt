use Rattle.std.proofs.Common.{ap}
use Rattle.worker_slices.specs.Homes.{shard_at}
use Rattle.phase_transactions.proofs.AnswerLemmas.{refused_by_shard, refused_by_fixed}
use Rattle.phase_transactions.proofs.worker.Worker.refusal.Goals as goal

pub refusal_in-requires : goal.refusal_in-requires
refusal_in-requires g c item needs = c.requires.there item c.in-Shard.field-0 needs (ap shard_at c.in-Shard.is)

pub returns-in-Shard : goal.returns-in-Shard
returns-in-Shard g c = refused_by_shard c.args.self.now c.args.request.now c.args.homes.now c.args.taken.now c.in-Shard.field-0 c.refusal_in.result c.in-Shard.is c.refusal_in.ensures

pub returns-in_default : goal.returns-in_default
returns-in_default g c =
    refused_by_fixed c.args.self.now c.requires.homes.0 c.args.request.now c.args.homes.now c.args.taken.now c.fixed.result c.refusal_with.result c.requires.homes.1 c.fixed.ensures c.in_default.not-Shard c.refusal_with.ensures
