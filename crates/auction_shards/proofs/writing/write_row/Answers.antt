use Rattle.std.proofs.Common.{[], ◌∷◌, map, sym, ap, subst, ◌∙◌}
use Rattle.item_shards.specs.{Acting.{CanActOn}, Contents.{target}}
use Rattle.item_shards.specs.ShardContents.{contents, opening, rooms, shard_count, shard_number}
use Rattle.item_shards.specs.Writing.{writes_of, first_act, second_act}
use Rattle.shard_boxes.specs.States.{state_of}
use Rattle.auction_shards.proofs.Acts.{both_written, can_first, can_second, still_of_one}
use Rattle.auction_shards.specs.{Shards.{AreOfOne}, Writing.{CanWriteOn, HaveDone}}
use Rattle.auction_shards.proofs.writing.write_row.Goals as goal

pub act-requires-clause-shards : goal.act-requires-clause-shards
act-requires-clause-shards c = subst AreOfOne (sym c.in_ok-make_room.ensures.same) c.requires.shards

pub act-requires-clause-can : goal.act-requires-clause-can
act-requires-clause-can c = λ object shard about is.
    let made = c.in_ok-make_room.ensures in let r = c.args.row.now in
    let one : AreOfOne (map state_of c.make_room.new.shards.items) = subst AreOfOne (sym made.same) c.requires.shards in
    let can : CanWriteOn (map state_of c.make_room.new.shards.items) r = subst (λ states. CanWriteOn states r) (sym made.same) c.requires.can in
    let first = c.writes_of-first.ensures.first (contents shard) in
    subst (CanActOn (opening shard) (shard_number shard) (shard_count shard) (rooms shard) (contents shard)) (sym first)
    (can_first c.make_room.new.shards.items one object shard is r can (sym (ap target first) ∙ about) made.room)

pub act-requires-2-clause-shards : goal.act-requires-2-clause-shards
act-requires-2-clause-shards c =
    let one : AreOfOne (map state_of c.make_room.new.shards.items) = subst AreOfOne (sym c.in_ok-make_room.ensures.same) c.requires.shards in
    let act = first_act (writes_of c.args.row.now) in
    still_of_one (map state_of c.make_room.new.shards.items) (map state_of c.act.new.shards.items) (act ∷ []) one (c.act.ensures act c.writes_of-first.ensures.first)

pub act-requires-2-clause-can : goal.act-requires-2-clause-can
act-requires-2-clause-can c = λ object shard about is.
    let made = c.in_ok-make_room.ensures in let r = c.args.row.now in
    let one : AreOfOne (map state_of c.make_room.new.shards.items) = subst AreOfOne (sym made.same) c.requires.shards in
    let can : CanWriteOn (map state_of c.make_room.new.shards.items) r = subst (λ states. CanWriteOn states r) (sym made.same) c.requires.can in
    let done = c.act.ensures (first_act (writes_of r)) c.writes_of-first.ensures.first in
    let second = c.writes_of-first.ensures.second (contents shard) in
    subst (CanActOn (opening shard) (shard_number shard) (shard_count shard) (rooms shard) (contents shard)) (sym second)
    (can_second c.make_room.new.shards.items c.act.new.shards.items r one can done object shard is (sym (ap target second) ∙ about))

pub returns-clause-done : goal.returns-clause-done
returns-clause-done c =
    let r = c.args.row.now in let all = map state_of c.act-2.new.shards.items in
    subst (λ states. HaveDone states all (writes_of r)) c.in_ok-make_room.ensures.same
    (both_written (map state_of c.make_room.new.shards.items) (map state_of c.act.new.shards.items) all r
    (c.act.ensures (first_act (writes_of r)) c.writes_of-first.ensures.first)
    (c.act-2.ensures (second_act (writes_of r)) c.writes_of-first.ensures.second))
