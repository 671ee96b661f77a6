use Rattle.std.proofs.{Common.{◌≡◌}, lemmas.Result.{on_ok_weaker}}
use Rattle.item_shards.proofs.WriteLemmas.{room_for_item, room_for_other}
use Rattle.item_shards.specs.ShardContents.{rooms, shard_count, shard_number, with_room}
use Rattle.item_shards.proofs.shard.Shard.prepare_row.Goals as goal

pub returns-in-Item-clause-room : goal.returns-in-Item-clause-room
returns-in-Item-clause-room c =
    let old = c.args.self.now in let new = c.prepare_item.new.self in
    on_ok_weaker c.prepare_item.result
    (λ (granted : rooms new ≡ with_room c.in-Item.row.id (rooms old)). room_for_item (shard_number old) (shard_count old) (rooms new) (rooms old) c.args.row.now c.in-Item.row c.in-Item.is granted)
    c.prepare_item.ensures.granted

pub returns-in_default-clause-room : goal.returns-in_default-clause-room
returns-in_default-clause-room c =
    let old = c.args.self.now in
    room_for_other (shard_number old) (shard_count old) (rooms old) c.args.row.now c.in_default.not-Item
