use Rattle.std.proofs.Common.{rules, ◌≡◌, Option, None, Some, sym, ap, subst, ◌∙◌}
use Rattle.auction_rows.specs.Replies.{answer_unless}
use Rattle.auction_rows.specs.declared.requests.Object.TheVariants.{Item, User, Category}
use Rattle.auction_rows.specs.declared.{requests.Facts.Facts, replies.Reply.Reply}
use Rattle.item_shards.specs.{ShardContents.{contents}, Values.{Value}}
use Rattle.item_shards.specs.Views.{item_view, bids_view, category_view}
use Rattle.phase_transactions.specs.{Txns.{SuitsBids, SuitsItem}, inner.Begun.{viewed}}
use Rattle.phase_transactions.specs.{declared.asked.Viewed.{Viewed}, inner.Asking.{view_request}}
use Rattle.phase_transactions.proofs.answers.view_on.Goals as goal

-- what is shown of an item suits the request
item_suits : (v : Value) (reply : Reply) → reply ≡ item_view v → SuitsItem reply
item_suits v reply is = subst SuitsItem (sym is) (at v.facts) where
  at : (stored : Option Facts) → SuitsItem (item_view (record v { facts = stored }))
  at None = tt
  at (Some facts) = tt

bids_suit : (v : Value) (reply : Reply) → reply ≡ bids_view v → SuitsBids reply
bids_suit v reply is = subst SuitsBids (sym is) (at v.facts) where
  at : (stored : Option Facts) → SuitsBids (bids_view (record v { facts = stored }))
  at None = tt
  at (Some facts) = tt

pub view_item-requires : goal.view_item-requires
view_item-requires c = record { here = c.requires.here (Item c.in-Item.item) (ap (λ (v : Viewed). viewed (view_request v)) c.in-Item.is) }

pub view_bids-requires : goal.view_bids-requires
view_bids-requires c = record { here = c.requires.here (Item c.in-Bids.item) (ap (λ (v : Viewed). viewed (view_request v)) c.in-Bids.is) }

pub view_category-requires : goal.view_category-requires
view_category-requires c = record { here = c.requires.here (Category c.in-Category.category) (ap (λ (v : Viewed). viewed (view_request v)) c.in-Category.is) }

pub view_user-requires : goal.view_user-requires
view_user-requires c = record { here = c.requires.here (User c.in-User.user) (ap (λ (v : Viewed). viewed (view_request v)) c.in-User.is) }

pub returns-in-Item-clause-answers : goal.returns-in-Item-clause-answers
returns-in-Item-clause-answers c counters worker = rw c.in-Item.is (item_suits (contents c.args.shard.now (Item c.in-Item.item)) _ c.view_item.ensures.contents)

pub returns-in-Bids-clause-answers : goal.returns-in-Bids-clause-answers
returns-in-Bids-clause-answers c counters worker = rw c.in-Bids.is (bids_suit (contents c.args.shard.now (Item c.in-Bids.item)) _ c.view_bids.ensures.contents)

pub returns-in-Item-clause-shown : goal.returns-in-Item-clause-shown
returns-in-Item-clause-shown c = rw c.in-Item.is c.view_item.ensures.contents

pub returns-in-Bids-clause-shown : goal.returns-in-Bids-clause-shown
returns-in-Bids-clause-shown c = rw c.in-Bids.is c.view_bids.ensures.contents

pub returns-in-Category-clause-answers : goal.returns-in-Category-clause-answers
returns-in-Category-clause-answers c = search rules

pub returns-in-Category-clause-shown : goal.returns-in-Category-clause-shown
returns-in-Category-clause-shown c =
    let view = category_view (contents c.args.shard.now (Category c.in-Category.category)) in
    let allowed = rw c.in-Category.is at c.requires.allowed in
    rw c.in-Category.is (c.view_category.ensures.contents ∙ ap (λ refusal. answer_unless refusal view) allowed)
