-- Where a worker finds the objects of a request.
use Rattle.std.specs.Prelude.{◌≡◌, ℕ}
use Rattle.auction_rows.specs.declared.requests.Object.TheVariants.{Item, User, Category}
use Rattle.auction_rows.specs.declared.requests.Request.{Request}
use Rattle.auction_rows.specs.declared.requests.Request.TheVariants.{StoreItem, StoreBid, StoreComment, BuyNow, ViewItem, ViewBids, ViewCategory, ViewUser}
use Rattle.worker_slices.specs.{Homes.{IsHomeOf}, declared.homes.Homes.{Homes}}
use Rattle.worker_slices.specs.declared.homes.Home.TheVariants as home
use Rattle.phase_transactions.specs.Workers.{WorkerState, next_item}

-- the homes of a request's item, and of its user or category
abbrev pub AreHomesOf : WorkerState → ℕ → Request → Homes → Type 0
AreHomesOf w shards (StoreItem facts time) homes =
    IsHomeOf w.slices shards (Item (next_item w)) homes.item
    × IsHomeOf w.slices shards (Category facts.category) homes.other
AreHomesOf w shards (StoreBid bidder item amount time) homes =
    IsHomeOf w.slices shards (Item item) homes.item × (homes.other ≡ home.Nowhere)
AreHomesOf w shards (StoreComment author about item stars) homes =
    IsHomeOf w.slices shards (Item item) homes.item
    × IsHomeOf w.slices shards (User about) homes.other
AreHomesOf w shards (BuyNow buyer item quantity time) homes =
    IsHomeOf w.slices shards (Item item) homes.item × (homes.other ≡ home.Nowhere)
AreHomesOf w shards (ViewItem item) homes =
    IsHomeOf w.slices shards (Item item) homes.item × (homes.other ≡ home.Nowhere)
AreHomesOf w shards (ViewBids item) homes =
    IsHomeOf w.slices shards (Item item) homes.item × (homes.other ≡ home.Nowhere)
AreHomesOf w shards (ViewCategory category) homes =
    (homes.item ≡ home.Nowhere) × IsHomeOf w.slices shards (Category category) homes.other
AreHomesOf w shards (ViewUser user) homes =
    (homes.item ≡ home.Nowhere) × IsHomeOf w.slices shards (User user) homes.other

-- the homes of a request's objects, in a phase with some number of shards
abbrev pub HasHomes : WorkerState → Request → Homes → Type 0
HasHomes w request homes = (shards : ℕ) × AreHomesOf w shards request homes
