-- A contents: objects by their values, and what acts and merges do to it.
use Rattle.std.specs.Prelude.{ℕ, ◌+◌, List, fold, if◌then◌else◌, is_some, Option, Some, None}
use Rattle.auction_rows.specs.Requests.{same_object}
use Rattle.auction_rows.specs.declared.requests.Object.TheVariants.{Item, User, Category}
use Rattle.auction_rows.specs.declared.{values.Stars.Stars, requests.ItemId.ItemId, requests.Facts.Facts, requests.BidEntry.BidEntry, requests.ItemEntry.ItemEntry, requests.Object.Object, replies.Refusal.Refusal}
use Rattle.item_shards.specs.Events.{Event, AddItem, ListItem, Bid, Comment, Buy, Look}
use Rattle.item_shards.specs.Slices.{with_bid, with_bids, with_comment, with_comments, with_item, with_items}
use Rattle.item_shards.specs.{Values.{Value}, declared.shard.slices.CategorySlice.{CategorySlice}}
use Rattle.item_shards.specs.declared.shard.slices.{ItemSlice.{ItemSlice}, UserSlice.{UserSlice}}
use Rattle.item_shards.specs.Shown as shown

abbrev pub Contents : Type 0
Contents = Object → Value

-- the contents with one object's value changed
abbrev pub changed : Object → (Value → Value) → Contents → Contents
changed object change contents other =
    if same_object object other then change (contents other) else contents other

-- the object that an act is about, if there is one
abbrev pub target : Event → Option Object
target (AddItem id facts) = Some (Item id)
target (ListItem category entry) = Some (Category category)
target (Bid id entry) = Some (Item id)
target (Comment user stars) = Some (User user)
target (Buy id quantity) = Some (Item id)
target (Look shown.Nothing) = None
target (Look (shown.Facts id facts)) = Some (Item id)
target (Look (shown.Left id seen)) = Some (Item id)
target (Look (shown.Item id view)) = Some (Item id)
target (Look (shown.Bids id view)) = Some (Item id)
target (Look (shown.Category category view)) = Some (Category category)
target (Look (shown.User user view)) = Some (User user)

-- an item's facts are those that it was first stored with
abbrev pub with_facts : Facts → Value → Value
with_facts facts value = record value {
  facts = if is_some value.facts then value.facts else Some facts;
}

-- an item has one bid more
abbrev pub bid_on : BidEntry → Value → Value
bid_on bid value = record value { bids = with_bid value.bids bid }

-- one more purchase of an item
abbrev pub bought_of : ℕ → Value → Value
bought_of quantity value = record value { bought = value.bought + quantity }

-- a user has one comment more
abbrev pub comment_about : Stars → Value → Value
comment_about stars value = record value { comments = with_comment value.comments stars }

-- a category has one item more
abbrev pub item_listed : ItemEntry → Value → Value
item_listed entry value = record value { items = with_item value.items entry }

-- an item's bids have those of a slice added
abbrev pub bids_merged : ItemSlice → Value → Value
bids_merged slice value = record value { bids = with_bids value.bids slice }

-- a user's comments have those of a slice added
abbrev pub comments_merged : UserSlice → Value → Value
comments_merged slice value = record value { comments = with_comments value.comments slice }

-- a category's items have those of a slice added
abbrev pub items_merged : CategorySlice → Value → Value
items_merged slice value = record value { items = with_items value.items slice }

-- the contents after a bid on an item, unless the item has a reason to refuse it
abbrev pub bid_unless : Option Refusal → ItemId → BidEntry → Contents → Contents
bid_unless None item bid contents = changed (Item item) (bid_on bid) contents
bid_unless (Some reason) item bid contents = contents

-- the contents after an act: a look changes nothing
abbrev pub after_act : Contents → Event → Contents
after_act contents (AddItem id facts) = changed (Item id) (with_facts facts) contents
after_act contents (ListItem category entry) =
    changed (Category category) (item_listed entry) contents
after_act contents (Bid id entry) = changed (Item id) (bid_on entry) contents
after_act contents (Comment user stars) = changed (User user) (comment_about stars) contents
after_act contents (Buy id quantity) = changed (Item id) (bought_of quantity) contents
after_act contents (Look shown) = contents

-- the contents after acts, in order
abbrev pub after_acts : Contents → List Event → Contents
after_acts contents acts = fold after_act contents acts
