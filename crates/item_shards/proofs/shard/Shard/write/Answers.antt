use Rattle.std.proofs.Common.{sym, ap, subst, ◌∙◌}
use Rattle.item_shards.proofs.{CommitLemmas.{can_next}, SerialLemmas.{either_way}}
use Rattle.item_shards.proofs.WriteLemmas.{both_done, can_once_prepared, first_can, second_can}
use Rattle.item_shards.specs.{Acting.{CanActIn}, Contents.{Contents, after_act, after_acts}}
use Rattle.item_shards.specs.Looking.{event_at}
use Rattle.item_shards.specs.ShardContents.{contents, opening, rooms, shard_count, shard_number}
use Rattle.item_shards.specs.Writing.{writes_of, second_act}
use Rattle.item_shards.proofs.shard.Shard.write.Goals as goal

pub returns-in_err-prepare_row-clause-refused : goal.returns-in_err-prepare_row-clause-refused
returns-in_err-prepare_row-clause-refused c = either_way c.from_residual.result c.prepare_row.ensures.contents

pub act-requires : goal.act-requires
act-requires c =
    let new = c.prepare_row.new.self in let r = c.args.row.now in let did = c.prepare_row.ensures in
    let can = can_once_prepared c.args.self.now new r did.same did.contents c.requires.can c.in_ok-prepare_row.ensures.room in
    subst (CanActIn new (rooms new) (contents new)) (sym (c.writes_of-first.ensures.first (contents new)))
    (first_can (opening new) (shard_number new) (shard_count new) (rooms new) (contents new) r can)

pub act-requires-2 : goal.act-requires-2
act-requires-2 c =
    let new = c.prepare_row.new.self in let last = c.act.new.self in let r = c.args.row.now in
    let did = c.prepare_row.ensures in
    let can = can_once_prepared c.args.self.now new r did.same did.contents c.requires.can c.in_ok-prepare_row.ensures.room in
    let one = event_at (contents new) c.writes_of-first.result.0 in
    subst (CanActIn last (rooms last) (contents last)) (sym (c.writes_of-first.ensures.second (contents last)))
    (can_next new last one (second_act (writes_of r)) c.act.ensures.same c.act.ensures.rooms c.act.ensures.contents
    (second_can (opening new) (shard_number new) (shard_count new) (rooms new) (contents new) r can (after_act (contents new) one)))

pub returns-clause-written : goal.returns-clause-written
returns-clause-written c =
    let new = contents c.prepare_row.new.self in let last = contents c.act.new.self in
    let r = c.args.row.now in
    c.act-2.ensures.contents ∙ ap (after_act last) (c.writes_of-first.ensures.second last)
    ∙ ap (λ (now : Contents). after_act now (second_act (writes_of r))) (c.act.ensures.contents ∙ ap (after_act new) (c.writes_of-first.ensures.first new))
    ∙ both_done new r
    ∙ ap (λ (now : Contents). after_acts now (writes_of r)) c.prepare_row.ensures.contents
