use Rattle.std.proofs.Common.{ap, sym}
use Rattle.worker_slices.specs.Homes.{shard_at}
use Rattle.worker_slices.proofs.homes.Home.shard.Goals as goal

pub returns-in-Shard : goal.returns-in-Shard
returns-in-Shard c = ap shard_at (sym c.in-Shard.is)
