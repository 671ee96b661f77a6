-- What is asked of a worker, as a request, and where what it is about is.
use Rattle.std.specs.Prelude.{ℕ}
use Rattle.auction_rows.specs.declared.requests.Request.{Request}
use Rattle.auction_rows.specs.declared.requests.Request.TheVariants.{StoreItem, StoreComment, BuyNow, ViewItem, ViewBids, ViewCategory, ViewUser}
use Rattle.request_scripts.specs.Scripts.{request_of}
use Rattle.worker_slices.specs.declared.homes.{Home.{Home}, Homes.{Homes}}
use Rattle.worker_slices.specs.declared.homes.Home.TheVariants as home
use Rattle.phase_transactions.specs.declared.asked.{Asked.{Asked}, Stored.{Stored}, Viewed.{Viewed}}
use Rattle.phase_transactions.specs.declared.asked.Asked.TheVariants as asked
use Rattle.phase_transactions.specs.declared.asked.Stored.TheVariants as stored
use Rattle.phase_transactions.specs.declared.asked.Viewed.TheVariants as viewed

-- a store that is no bid, as a request
abbrev pub store_request : Stored → Request
store_request (stored.Item facts time) = StoreItem facts.now time
store_request (stored.Comment author about item stars) = StoreComment author about item stars
store_request (stored.Buy buyer item quantity time) = BuyNow buyer item quantity time

-- a view, as a request
abbrev pub view_request : Viewed → Request
view_request (viewed.Item item) = ViewItem item
view_request (viewed.Bids item) = ViewBids item
view_request (viewed.Category category) = ViewCategory category
view_request (viewed.User user) = ViewUser user

-- what is asked, as a request
abbrev pub asked_request : Asked → Request
asked_request (asked.Bid bid) = request_of bid
asked_request (asked.Store store) = store_request store
asked_request (asked.View view) = view_request view

-- an item's home alone
abbrev pub item_alone : Home → Homes
item_alone at = record { item = at; other = home.Nowhere }

-- the homes of a view whose object lies in this shard
abbrev pub homes_viewed : Viewed → ℕ → Homes
homes_viewed (viewed.Item item) shard = item_alone (home.Shard shard)
homes_viewed (viewed.Bids item) shard = item_alone (home.Shard shard)
homes_viewed (viewed.Category category) shard =
    record { item = home.Nowhere; other = home.Shard shard }
homes_viewed (viewed.User user) shard = record { item = home.Nowhere; other = home.Shard shard }
