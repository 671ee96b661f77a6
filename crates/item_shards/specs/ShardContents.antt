-- A shard by its contents.
use Rattle.std.specs.Prelude.{ℕ, ◌≡◌, ◌==◌, ◌/◌, if◌then◌else◌, Bool, false, ◌||◌, List, [], slice_get, Option, is_some, IsTrue, MatchOption}
use Rattle.indexmap.specs.IndexMap.{IndexMap, get}
use Rattle.auction_rows.specs.{Book.{Book, same_item}, Footprint.{is_hot}, Requests.{shard_of}}
use Rattle.auction_rows.specs.declared.requests.Object.TheVariants.{Item, User, Category}
use Rattle.auction_rows.specs.declared.{values.Opening.Opening, requests.ItemId.ItemId, requests.Object.Object}
use Rattle.item_shards.specs.Contents.{Contents, changed}
use Rattle.item_shards.specs.Records.{item_value, user_value, category_value}
use Rattle.item_shards.specs.{Standing.{ContentsStandsFor}, Values.{Value, blank}}
use Rattle.item_shards.specs.declared.shard.{Shard.{Shard}, records.ItemRecord.{ItemRecord}}
use Rattle.item_shards.specs.declared.shard.slices.CategorySlice.{CategorySlice}
use Rattle.item_shards.specs.declared.shard.slices.UserSlice.{UserSlice}

-- what lies in one shard of several, blank elsewhere
abbrev pub in_shard : ℕ → ℕ → Contents → Contents
in_shard number shards contents object =
    if shard_of object shards == number then contents object else blank

-- which shard it is
abbrev pub shard_number : Shard → ℕ
shard_number shard = shard.parts.value.number

-- how many shards there are
abbrev pub shard_count : Shard → ℕ
shard_count shard = shard.parts.value.shards

-- the shard that an object lies in is this one
abbrev pub LiesIn : Shard → Object → Type 0
LiesIn shard object = shard_of object (shard_count shard) ≡ shard_number shard

-- the values of what is stored, wherever it lies
abbrev pub kept_in : {S : Type 0} → IndexMap ItemId ItemRecord S → List UserSlice →
    List CategorySlice → ℕ → Contents
kept_in items users categories shards (Item id) = item_value (get same_item items id)
kept_in items users categories shards (User user) = user_value (slice_get users (user / shards))
kept_in items users categories shards (Category category) =
    category_value (slice_get categories (category / shards))

-- the values of what the shard stores, wherever it lies
abbrev pub kept : Shard → Contents
kept shard =
    let parts = shard.parts.value in
    kept_in parts.items parts.users.items parts.categories.items parts.shards

-- the values of the objects of the shard
abbrev pub contents : Shard → Contents
contents shard = in_shard shard.parts.value.number shard.parts.value.shards (kept shard)

-- the number of the last commit that took the shard
abbrev pub clock : Shard → ℕ
clock shard = shard.clock

-- the users and categories of the auction
abbrev pub opening : Shard → Opening
opening shard = shard.parts.value.opening

-- whether a map has room for an item, stored or not
abbrev pub rooms_in : {S : Type 0} → IndexMap ItemId ItemRecord S → ItemId → Bool
rooms_in items id = is_some (get same_item items id)

-- whether the shard has room for an item
abbrev pub rooms : Shard → ItemId → Bool
rooms shard = rooms_in shard.parts.value.items

-- the shard has room for this item
abbrev pub HasItemRoom : Shard → ItemId → Type 0
HasItemRoom shard id = IsTrue (rooms shard id)

-- the record of an item, if the shard has room for it
abbrev pub record_in : Shard → ItemId → Option ItemRecord
record_in shard id = get same_item shard.parts.value.items id

-- the item of an entry of a map
abbrev pub id_in : ItemId × ItemRecord → ItemId
id_in entry = entry.0

-- the place of a map at which it has the item
abbrev pub IsPlaceOf : {S : Type 0} → IndexMap ItemId ItemRecord S → ItemId → ℕ → Type 0
IsPlaceOf items id place = MatchOption (slice_get items.entries place) ⊥ (λ entry. id_in entry ≡ id)

-- there is room for these items and for one more
abbrev pub with_room : ItemId → (ItemId → Bool) → ItemId → Bool
with_room item rooms other = same_item item other || rooms other

-- the shard is the same one of the same auction
pub record IsSameShard (old new : Shard) : Type 0 where
  -- the shard has the same number
  pub number : shard_number new ≡ shard_number old
  -- the shard is one of as many
  pub shards : shard_count new ≡ shard_count old
  -- users and categories are the same
  pub opening : opening new ≡ opening old

-- the shard shows these contents, at this clock, and is otherwise as it was
pub record HasBecome (old new : Shard) (shown : Contents) (number : ℕ) : Type 0 where
  -- the shard shows these contents
  pub contents : contents new ≡ shown
  -- the clock has this number
  pub clock : clock new ≡ number
  -- there is room for the same items
  pub rooms : rooms new ≡ rooms old
  -- the shard is the same one
  pub same : IsSameShard old new

-- the value of one object has changed, and nothing else
abbrev pub HasChanged : Shard → Shard → Object → (Value → Value) → Type 0
HasChanged old new object change =
    HasBecome old new (changed object change (contents old)) (clock old)

-- the shard stands for a book, but for hot objects
abbrev pub ShardStandsFor : Shard → Book → List Object → Type 0
ShardStandsFor shard book hot =
    ContentsStandsFor (shard_number shard) (shard_count shard) (contents shard) book hot

-- each book that the shard stands for has the property, if the object is not hot
abbrev pub ForEachBook : Shard → Object → (Book → Type 0) → Type 0
ForEachBook shard object P =
    (book : Book) (hot : List Object) → ShardStandsFor shard book hot → is_hot hot object ≡ false →
    P book

-- the new shard stands for each book that the old one stood for
abbrev pub KeepsBooks : Shard → Shard → Type 0
KeepsBooks old new =
    (book : Book) (hot : List Object) → ShardStandsFor old book hot → ShardStandsFor new book hot

-- a shard in which nothing is stored
pub record IsNewShard (number shards : ℕ) (start : Opening) (shard : Shard) : Type 0 where
  -- the shard has this number
  pub number_is : shard_number shard ≡ number
  -- the shard is one of so many
  pub shards_is : shard_count shard ≡ shards
  -- the shard has these users and categories
  pub opening_is : opening shard ≡ start
  -- no commit has taken the shard
  pub clock_is : clock shard ≡ 0
  -- the shard has room for no item
  pub no_rooms : (id : ItemId) → rooms shard id ≡ false
  -- nothing is known of any object
  pub nothing : (object : Object) → contents shard object ≡ blank
  -- the shard stands for the empty book
  pub stands : (hot : List Object) → ShardStandsFor shard [] hot
