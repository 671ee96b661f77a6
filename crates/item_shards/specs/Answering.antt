-- Why an item refuses a request.
use Rattle.std.specs.Prelude.{◌≡◌, ℕ, Option, Some, option_map, option_and_then, unwrap_or}
use Rattle.auction_rows.specs.{Refusals.{item_refusal}, Requests.{item_of}}
use Rattle.auction_rows.specs.declared.requests.Object.TheVariants.{Item}
use Rattle.auction_rows.specs.declared.requests.Request.TheVariants.{StoreBid}
use Rattle.auction_rows.specs.declared.{requests.ItemId.ItemId, requests.Facts.Facts, requests.BidEntry.BidEntry, requests.Request.Request, replies.Refusal.Refusal}
use Rattle.item_shards.specs.{Contents.{Contents}, ShardContents.{LiesIn}}
use Rattle.item_shards.specs.{Values.{stock, stock_facts, stock_left}, declared.shard.Shard.{Shard}}

-- the first reason for which an item refuses a request, by its facts and how many are left, if it is stored
abbrev pub refusal_with : Option (Facts × ℕ) → Request → Option Refusal
refusal_with found request =
    item_refusal request (option_map stock_facts found) (unwrap_or (option_map stock_left found) 0)

-- the request to store a bid on an item
abbrev pub bid_request : ItemId → BidEntry → Request
bid_request item bid = StoreBid bid.bidder item bid.amount bid.time

-- the item that a request needs, if it needs one, lies in the shard
abbrev pub HasItemOf : Shard → Request → Type 0
HasItemOf shard request = (item : ItemId) → item_of request ≡ Some item → LiesIn shard (Item item)

-- what contents have of the item that a request needs
abbrev pub stock_needed : Contents → Request → Option (Facts × ℕ)
stock_needed contents request =
    option_and_then (λ item. stock (contents (Item item))) (item_of request)
