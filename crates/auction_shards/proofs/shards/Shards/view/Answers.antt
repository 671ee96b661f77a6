use Rattle.std.proofs.Common.{map, sym, ap, ◌∙◌}
use Rattle.auction_rows.specs.Replies.{reply}
use Rattle.auction_rows.specs.declared.requests.Object.TheVariants.{Item, User, Category}
use Rattle.auction_rows.specs.declared.requests.Request.TheVariants.{ViewItem, ViewBids, ViewCategory, ViewUser}
use Rattle.shard_boxes.specs.States.{state_of}
use Rattle.auction_shards.{proofs.Views.{replies}, specs.Shards.{opening_in}}
use Rattle.auction_shards.proofs.shards.Shards.view.Goals as goal

pub returns-in-ViewItem-clause-book : goal.returns-in-ViewItem-clause-book
returns-in-ViewItem-clause-book c = λ book worker stands.
    let opening = opening_in (map state_of c.args.self.now) in let item = c.in-ViewItem.item in let shard = c.of.result.now in
    replies shard (Item item) opening c.view_item.result (ViewItem item) c.of.ensures.opening c.view_item.ensures.book book (c.of.ensures.books book stands) worker
    ∙ ap (reply opening book worker) (sym c.in-ViewItem.is)

pub returns-in-ViewBids-clause-book : goal.returns-in-ViewBids-clause-book
returns-in-ViewBids-clause-book c = λ book worker stands.
    let opening = opening_in (map state_of c.args.self.now) in let item = c.in-ViewBids.item in let shard = c.of-in-ViewBids in
    replies shard.result.now (Item item) opening c.view_bids.result (ViewBids item) shard.ensures.opening c.view_bids.ensures.book book (shard.ensures.books book stands) worker
    ∙ ap (reply opening book worker) (sym c.in-ViewBids.is)

pub returns-in-ViewCategory-clause-book : goal.returns-in-ViewCategory-clause-book
returns-in-ViewCategory-clause-book c = λ book worker stands.
    let opening = opening_in (map state_of c.args.self.now) in let category = c.in-ViewCategory.category in let shard = c.of-in-ViewCategory in
    replies shard.result.now (Category category) opening c.view_category.result (ViewCategory category) shard.ensures.opening c.view_category.ensures.book book (shard.ensures.books book stands) worker
    ∙ ap (reply opening book worker) (sym c.in-ViewCategory.is)

pub returns-in-ViewUser-clause-book : goal.returns-in-ViewUser-clause-book
returns-in-ViewUser-clause-book c = λ book worker stands.
    let opening = opening_in (map state_of c.args.self.now) in let user = c.in-ViewUser.user in let shard = c.of-in-ViewUser in
    replies shard.result.now (User user) opening c.view_user.result (ViewUser user) shard.ensures.opening c.view_user.ensures.book book (shard.ensures.books book stands) worker
    ∙ ap (reply opening book worker) (sym c.in-ViewUser.is)
