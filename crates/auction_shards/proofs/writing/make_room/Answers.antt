use Rattle.std.proofs.Common.{◌≡◌, ◌<◌, length, set, ap, sym, subst, ◌∙◌, arith}
use Rattle.std.proofs.lemmas.Result.{on_ok_weaker}
use Rattle.auction_rows.specs.{History.{commit_of}, Requests.{shard_of}}
use Rattle.auction_rows.specs.declared.replies.Reply.TheVariants.{ItemStored}
use Rattle.auction_rows.specs.declared.requests.Object.TheVariants.{Item}
use Rattle.item_shards.{proofs.WriteLemmas.{has_own_room, row_of_item}, specs.ShardContents.{rooms}}
use Rattle.auction_shards.proofs.{Acts.{room_there, shown_still}, Placed.{lies_there}}
use Rattle.auction_shards.specs.inner.Acting.{HasRoomIn}
use Rattle.auction_shards.proofs.writing.make_room.Goals as goal

pub prepare_item-requires : goal.prepare_item-requires
prepare_item-requires c =
    let shards = c.args.shards.now.items in let place = c.shard_of-place.result in let object = Item c.in-Item.row.id in
    let many : c.len.result ≡ length shards = omega (arith, c.len.ensures, c.args.shards.now.ok.0) in
    let low : place < length shards = omega (arith, c.shard_of-place.ensures.within, many) in
    record { here = lies_there shards c.requires.numbered object place low (ap (shard_of object) (sym many) ∙ sym c.shard_of-place.ensures.shard) c.index_mut.result.now c.index_mut.ensures.value }

pub returns-clause-same : goal.returns-clause-same
returns-clause-same c =
    let shards = c.args.shards.now.items in let place = c.shard_of-place.result in let p = c.prepare_item.ensures in
    let low : place < length shards = omega (arith, c.shard_of-place.ensures.within, c.len.ensures, c.args.shards.now.ok.0) in
    shown_still shards place low c.index_mut.result.now c.prepare_item.new.self c.index_mut.ensures.value p.same p.clock p.contents

pub returns-clause-room : goal.returns-clause-room
returns-clause-room c =
    let shards = c.args.shards.now.items in let place = c.shard_of-place.result in let own = c.in-Item.row.id in let object = Item own in let prepared = c.prepare_item.new.self in
    let many : c.len.result ≡ length shards = omega (arith, c.len.ensures, c.args.shards.now.ok.0) in
    let low : place < length shards = omega (arith, c.shard_of-place.ensures.within, many) in
    on_ok_weaker c.prepare_item.result
    (λ (granted : rooms prepared ≡ _). λ id e.
    let stored : ItemStored own ≡ ItemStored id = ap (λ one. (commit_of one).reply) (sym c.in-Item.is) ∙ e in
    let same : own ≡ id = cc stored in
    subst (HasRoomIn (set shards place prepared)) same
    (room_there shards own place low (ap (shard_of object) (sym many) ∙ sym c.shard_of-place.ensures.shard) prepared
    (ap (λ f. f own) granted ∙ has_own_room own (rooms c.index_mut.result.now))))
    c.prepare_item.ensures.granted

pub returns-in_default-clause-room : goal.returns-in_default-clause-room
returns-in_default-clause-room c = λ id e.
    let found = row_of_item c.args.row.now id e in
    absurd (c.in_default.not-Item found.0 found.1)
