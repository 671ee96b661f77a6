-- What a row says of an item, a category or a user: its bid, its listing, its stars.
use Rattle.std.specs.Prelude.{ℕ, if◌then◌else◌, ◌==◌, Option, Some, None}
use Rattle.auction_rows.specs.Book.{same_item, bid_entry, item_entry}
use Rattle.auction_rows.specs.declared.requests.{BidEntry.{BidEntry}, ItemEntry.{ItemEntry}}
use Rattle.auction_rows.specs.declared.{requests.ItemId.{ItemId}, rows.Row.{Row}}
use Rattle.auction_rows.specs.declared.rows.Row.TheVariants.{Item, Bid, Comment, Buy}
use Rattle.auction_rows.specs.declared.values.Stars.{Stars}

-- the bid that a row is on an item
abbrev pub row_bid : ItemId → Row → Option BidEntry
row_bid item (Item row) = None
row_bid item (Bid row) = if same_item row.item item then Some (bid_entry row) else None
row_bid item (Comment row) = None
row_bid item (Buy row) = None

-- the item that a row lists in a category
abbrev pub row_listing : ℕ → Row → Option ItemEntry
row_listing category (Item row) = if row.facts.category == category then Some (item_entry row) else None
row_listing category (Bid row) = None
row_listing category (Comment row) = None
row_listing category (Buy row) = None

-- the stars that a row gives a user
abbrev pub row_stars : ℕ → Row → Option Stars
row_stars user (Item row) = None
row_stars user (Bid row) = None
row_stars user (Comment row) = if row.about == user then Some row.stars else None
row_stars user (Buy row) = None
