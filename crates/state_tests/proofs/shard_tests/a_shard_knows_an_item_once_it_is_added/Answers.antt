use Rattle.std.proofs.{Common.{Bool, sym, ap, ◌∙◌}, lemmas.Result.{IfOk-at_ok}}
use Rattle.auction_rows.specs.{Requests.{shard_of}, declared.requests.ItemId.{ItemId}}
use Rattle.auction_rows.specs.declared.requests.Object.TheVariants.{Item}
use Rattle.state_tests.proofs.shard_tests.a_shard_knows_an_item_once_it_is_added.Goals as goal

pub act-requires : goal.act-requires
act-requires g c =
    let first : ItemId = record { worker = 0; serial = 0 } in
    let new = IfOk-at_ok _ c.expect-shard.ensures c.new.ensures in
    let same = c.prepare_item.ensures.same in (
      ap (shard_of (Item first)) (same.shards ∙ new.shards_is) ∙ sym (same.number ∙ new.number_is),
      ap (λ (rooms : ItemId → Bool). rooms first) (IfOk-at_ok _ c.expect.ensures c.prepare_item.ensures.granted),
    )
