-- Where a worker finds an object.
use Rattle.std.specs.Prelude.{◌≡◌, ℕ, true, false, List, Option, Some, None, ⊤}
use Rattle.auction_rows.specs.{Footprint.{is_hot}, Requests.{shard_of}}
use Rattle.auction_rows.specs.declared.requests.Object.TheVariants.{Item, User, Category}
use Rattle.auction_rows.specs.declared.requests.Request.TheVariants.{StoreItem, StoreBid, StoreComment}
use Rattle.auction_rows.specs.declared.requests.{Object.Object, Request.Request}
use Rattle.worker_slices.specs.{Slicing.{hot_objects, IsAt}, declared.homes.Home.{Home}}
use Rattle.worker_slices.specs.declared.{homes.Homes.{Homes}, slices.Hot.{Hot}}
use Rattle.worker_slices.specs.declared.homes.Home.TheVariants as home

-- the shard of an object, where it lies in one
abbrev pub shard_at : Home → Option ℕ
shard_at home.Nowhere = None
shard_at (home.Slice place) = None
shard_at (home.Shard shard) = Some shard

-- a hot object has its slice, another one lies in its shard
abbrev pub IsHomeOf : List (Object × Hot) → ℕ → Object → Home → Type 0
IsHomeOf hots shards object home.Nowhere = ⊥
IsHomeOf hots shards object (home.Slice place) =
    IsAt hots place object × (is_hot (hot_objects hots) object ≡ true)
IsHomeOf hots shards object (home.Shard shard) =
    (shard ≡ shard_of object shards) × (is_hot (hot_objects hots) object ≡ false)

-- the home of what a store writes to a slice of its kind, where that is hot
abbrev pub HasWrittenAt : List (Object × Hot) → ℕ → Request → Homes → Type 0
HasWrittenAt hots shards (StoreItem facts time) homes =
    IsHomeOf hots shards (Category facts.category) homes.other
HasWrittenAt hots shards (StoreBid bidder item amount time) homes =
    IsHomeOf hots shards (Item item) homes.item
HasWrittenAt hots shards (StoreComment author about item stars) homes =
    IsHomeOf hots shards (User about) homes.other
HasWrittenAt hots shards request homes = ⊤

abbrev pub IsWrittenAt : List (Object × Hot) → Request → Homes → Type 0
IsWrittenAt hots request homes = (shards : ℕ) × HasWrittenAt hots shards request homes

-- a bid on a hot item, or a comment of which both objects are hot
abbrev pub IsHotStore : List (Object × Hot) → Request → Type 0
IsHotStore hots (StoreBid bidder item amount time) = is_hot (hot_objects hots) (Item item) ≡ true
IsHotStore hots (StoreComment author about item stars) =
    (is_hot (hot_objects hots) (Item item) ≡ true) × (is_hot (hot_objects hots) (User about) ≡ true)
IsHotStore hots request = ⊥
