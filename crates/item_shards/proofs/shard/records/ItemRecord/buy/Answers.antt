use Rattle.std.proofs.Common.{ap}
use Rattle.item_shards.specs.{Contents.{bought_of}, Records.{record_value}}
use Rattle.item_shards.proofs.shard.records.ItemRecord.buy.Goals as goal

pub returns-in-Some : goal.returns-in-Some
returns-in-Some c = ap (λ bought. bought_of bought (record_value c.args.self.now)) c.value.ensures.value
