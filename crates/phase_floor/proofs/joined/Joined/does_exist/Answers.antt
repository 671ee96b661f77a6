use Rattle.std.proofs.Common.{rules, ap, ◌∙◌}
use Rattle.item_shards.specs.Values.{stock}
use Rattle.phase_floor.{proofs.HotItems.{item_exists}, specs.States.{states_of}}
use Rattle.phase_floor.proofs.joined.Joined.does_exist.Goals as goal

pub returns-in-Item : goal.returns-in-Item
returns-in-Item c =
    let state = c.args.self.now in
    item_exists state.opening (states_of state) c.args.object c.in-Item.item c.is_some.result c.stock.result c.in-Item.is c.is_some.ensures (c.stock.ensures.contents ∙ ap stock c.shard.ensures.value)

pub returns-in-User : goal.returns-in-User
returns-in-User c = search rules
