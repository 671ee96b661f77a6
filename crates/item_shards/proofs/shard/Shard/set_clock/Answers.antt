use Rattle.std.proofs.Common.{refl}
use Rattle.item_shards.proofs.shard.Shard.set_clock.Goals as goal

pub returns : goal.returns
returns c = record { contents = refl; clock = refl; rooms = refl; same = record { number = refl; shards = refl; opening = refl } }
