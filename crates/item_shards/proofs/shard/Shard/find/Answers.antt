use Rattle.std.proofs.Common.{sym}
use Rattle.item_shards.proofs.Stored.{place_found}
use Rattle.item_shards.proofs.shard.Shard.find.Goals as goal

pub returns-clause-place : goal.returns-clause-place
returns-clause-place c =
    place_found c.args.self.now.parts.value.items c.args.item c.in_ok-place.field-0-1.now c.in_ok-place.place c.in_ok-place.record.now
    (rw c.deref.ensures at c.in_ok-place.ensures.entry) (sym (rw c.deref.ensures at c.in_ok-place.ensures.key))
