-- What the view of an item shows.
use Rattle.std.specs.Prelude.{Option, Some, None}
use Rattle.auction_rows.specs.declared.replies.ItemView.{ItemView}
use Rattle.auction_rows.specs.declared.replies.{Refusal.TheVariants.{NoSuchItem}, Reply.{Reply}}
use Rattle.auction_rows.specs.declared.replies.Reply.TheVariants.{ItemSeen, Refused}

-- the reply that shows an item
abbrev pub item_reply : ItemView → Reply
item_reply seen =
    ItemSeen seen.seller seen.category seen.name seen.start seen.closes
    seen.highest seen.bidder seen.bids seen.left

-- the reply to the view of an item: a refusal if there is nothing to show
abbrev pub item_told : Option ItemView → Reply
item_told None = Refused NoSuchItem
item_told (Some seen) = item_reply seen
