use Rattle.std.proofs.Common.{◌+ℤ◌, Bool, pos, FitsSigned, sym, ap, subst, ◌∙◌, arith}
use Rattle.std.{proofs.lemmas.Result.{IfOk-at_ok}, specs.Int.{w64}}
use Rattle.auction_rows.specs.{Requests.{shard_of}, declared.requests.ItemId.{ItemId}}
use Rattle.auction_rows.specs.declared.requests.Object.TheVariants.{Item, User}
use Rattle.item_shards.specs.{Contents.{Contents}, Values.{Value}}
use Rattle.state_tests.proofs.merge_tests.a_shard_shows_the_slices_merged_into_it.Goals as goal

pub merge_user-requires-clause-rating : goal.merge_user-requires-clause-rating
merge_user-requires-clause-rating g c =
    let slice = c.two_comments.result in
    subst (λ (v : Value). FitsSigned w64 (v.comments.rating +ℤ slice.rating)) (sym ((IfOk-at_ok _ c.expect-shard.ensures c.new.ensures).nothing (User 3)))
    (subst (λ r. FitsSigned w64 (pos 0 +ℤ r)) (sym c.two_comments.ensures.rating) (omega arith))

pub merge_user-requires-clause-count : goal.merge_user-requires-clause-count
merge_user-requires-clause-count g c =
    omega (arith, ap (λ (v : Value). v.comments.comments) ((IfOk-at_ok _ c.expect-shard.ensures c.new.ensures).nothing (User 3)), c.two_comments.ensures.count)

pub merge_item-requires-clause-room : goal.merge_item-requires-clause-room
merge_item-requires-clause-room g c = ap (λ (rooms : ItemId → Bool). rooms (record { worker = 0; serial = 0 })) (IfOk-at_ok _ c.expect.ensures c.prepare_item.ensures.granted)

pub merge_item-requires-clause-count : goal.merge_item-requires-clause-count
merge_item-requires-clause-count g c =
    let first = Item (record { worker = 0; serial = 0 }) in
    let bids = λ (k : Contents). (k first).bids.bids in
    let none = ap bids c.prepare_item.ensures.contents ∙ ap bids c.merge_category.ensures.merged.contents ∙ ap bids c.merge_user.ensures.merged.contents
    ∙ ap (λ (v : Value). v.bids.bids) ((IfOk-at_ok _ c.expect-shard.ensures c.new.ensures).nothing first) in
    omega (arith, none, c.two_bids.ensures)

pub act-requires : goal.act-requires
act-requires g c =
    let first : ItemId = record { worker = 0; serial = 0 } in
    let new = IfOk-at_ok _ c.expect-shard.ensures c.new.ensures in
    let user = c.merge_user.ensures.merged.same in
    let category = c.merge_category.ensures.merged.same in let room = c.prepare_item.ensures.same in
    let item = c.merge_item.ensures.merged in (
      ap (shard_of (Item first)) (item.same.shards ∙ room.shards ∙ category.shards ∙ user.shards ∙ new.shards_is)
          ∙ sym (item.same.number ∙ room.number ∙ category.number ∙ user.number ∙ new.number_is),
      ap (λ (rooms : ItemId → Bool). rooms first) (item.rooms ∙ (IfOk-at_ok _ c.expect.ensures c.prepare_item.ensures.granted)),
    )
