use Rattle.std.proofs.Common.{length}
use Rattle.phase_transactions.proofs.ViewLemmas.{view_begins}
use Rattle.phase_transactions.proofs.worker.Worker.shard_viewed.Goals as goal

pub returns-clause-may : goal.returns-clause-may
returns-clause-may g c =
    view_begins c.args.self.now (length g.N.PhaseName.initial) c.args.viewed c.shard.result c.object.result c.object.ensures c.requires.allowed c.requires.goes c.shard.ensures.home
