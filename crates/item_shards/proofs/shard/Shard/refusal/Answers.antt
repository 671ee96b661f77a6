use Rattle.std.proofs.Common.{◌≡◌, None, option_and_then, refl, sym, ap, ◌∙◌}
use Rattle.auction_rows.specs.{Requests.{item_of}, declared.requests.Object.TheVariants.{Item}}
use Rattle.auction_rows.specs.declared.requests.Request.TheVariants.{StoreItem, ViewCategory, ViewUser}
use Rattle.auction_rows.specs.declared.requests.{ItemId.ItemId, Request.Request}
use Rattle.item_shards.specs.{Answering.{refusal_with}, ShardContents.{contents}, Values.{stock}}
use Rattle.item_shards.proofs.shard.Shard.refusal.Goals as goal

-- a request that needs no item is not refused by one
unneeded : (request : Request) → item_of request ≡ None → None ≡ refusal_with None request
unneeded (StoreItem facts time) none = refl
unneeded (ViewCategory category) none = refl
unneeded (ViewUser user) none = refl
unneeded request none = absurd (cc)

pub stock-requires : goal.stock-requires
stock-requires c = record { here = c.requires.here c.in-Some.item (sym c.item_of.ensures ∙ c.in-Some.is) }

pub returns-in-Some : goal.returns-in-Some
returns-in-Some c =
    let its = λ (id : ItemId). stock (contents c.args.self.now (Item id)) in
    c.refusal_with.ensures ∙ ap (λ found. refusal_with found c.args.request.now) (c.stock.ensures.contents ∙ sym (ap (option_and_then its) (sym c.item_of.ensures ∙ c.in-Some.is)))

pub returns-in-None : goal.returns-in-None
returns-in-None c =
    let request = c.args.request.now in
    let its = λ (id : ItemId). stock (contents c.args.self.now (Item id)) in
    let none : item_of request ≡ None = sym c.item_of.ensures ∙ c.in-None.is in
    unneeded request none ∙ ap (λ found. refusal_with found request) (sym (ap (option_and_then its) none))
