use Rattle.std.proofs.Common.{sym, ◌∙◌}
use Rattle.item_shards.proofs.Stored.{place_noted, record_noted}
use Rattle.item_shards.proofs.shard.Shard.find_noted.Goals as goal

pub returns-then-eq : goal.returns-then-eq
returns-then-eq c =
    let items = c.args.self.now.parts.value.items in let id = c.in_ok-id.id.now in
    let is = sym c.eq.ensures ∙ c.if-eq.true in record {
      «record» = record_noted items c.args.item id c.in_ok-id.record.now (rw c.deref-3.ensures at c.in_ok-id.ensures.value) is;
      place = place_noted items c.args.item id c.in_ok-place.place c.in_ok-id.record.now (rw c.deref-3.ensures at c.in_ok-id.ensures.entry) is;
    }
