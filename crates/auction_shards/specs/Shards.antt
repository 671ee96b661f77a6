-- The shards of one auction: what they have in common, and what they show.
use Rattle.std.specs.Prelude.{◌≡◌, ℕ, ◌<◌, ◌≤◌, List, length, ⊤}
use Rattle.auction_rows.specs.{Book.{Book}, Requests.{shard_of}}
use Rattle.auction_rows.specs.declared.limits.TheConstants.{MOST_SHARDS}
use Rattle.auction_rows.specs.declared.requests.Object.TheVariants.{Item, User, Category}
use Rattle.auction_rows.specs.declared.{values.Opening.Opening, requests.Object.Object}
use Rattle.item_shards.specs.{Standing.{ContentsStandsFor}, Values.{Value}}
use Rattle.shard_boxes.specs.States.{ShardState, state_at}

-- each shard has its place for number, and is one of as many as there are
abbrev pub AreNumbered : List ShardState → Type 0
AreNumbered states = (s : ℕ) → s < length states →
    ((state_at states s).number ≡ s) × ((state_at states s).shards ≡ length states)

-- the users and categories of shards
abbrev pub opening_in : List ShardState → Opening
opening_in states = (state_at states 0).opening

-- 1 to 64 shards of one auction, numbered from 0
pub record AreOfOne (states : List ShardState) : Type 0 where
  -- there are 1 to 64
  pub some : 0 < length states
  pub few : length states ≤ MOST_SHARDS
  -- they are numbered
  pub numbered : AreNumbered states
  -- they have the same users and categories
  pub opening_is : (s : ℕ) → s < length states → (state_at states s).opening ≡ opening_in states

-- the value of an object on the shard in which it lies
abbrev pub value_on : List ShardState → Object → Value
value_on states object = (state_at states (shard_of object (length states))).contents object

-- each shard has the values that a book gives its objects, but for hot ones
abbrev pub ShardsStandFor : List ShardState → Book → List Object → Type 0
ShardsStandFor states book hot = (s : ℕ) → s < length states →
    ContentsStandsFor s (length states) (state_at states s).contents book hot

-- a user or category of the opening, or any item
abbrev pub IsKnown : Opening → Object → Type 0
IsKnown opening (Item id) = ⊤
IsKnown opening (User user) = user < opening.users
IsKnown opening (Category category) = category < opening.categories

-- a shard with its clock at 0
abbrev pub at_start : ShardState → ShardState
at_start state = record state { clock = 0 }
