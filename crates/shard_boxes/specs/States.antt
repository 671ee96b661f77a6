-- What a shard shows.
use Rattle.std.specs.Prelude.{◌≡◌, ℕ, ◌+◌, ◌*◌, ◌<◌, ◌≤◌, List, length, slice_index_or, unsigned_abs}
use Rattle.auction_rows.specs.declared.requests.Object.TheVariants.{Item, User}
use Rattle.auction_rows.specs.declared.{values.Opening.Opening, requests.ItemId.ItemId}
use Rattle.item_shards.specs.{Contents.{Contents}, Values.{blank}, declared.shard.Shard.{Shard}}
use Rattle.item_shards.specs.ShardContents.{shard_number, shard_count, opening as opening_of, clock as clock_of, contents as contents_of}
use Rattle.shard_boxes.specs.declared.limits.TheConstants.{MOST_KEPT}

-- what a shard shows
pub record ShardState : Type 0 where
  -- which shard it is
  pub number : ℕ
  -- how many shards there are
  pub shards : ℕ
  -- the users and categories of the auction
  pub opening : Opening
  -- the greatest commit number that the shard has seen
  pub clock : ℕ
  -- the value of each object
  pub contents : Contents

-- what this shard shows
abbrev pub state_of : Shard → ShardState
state_of shard = record {
  number = shard_number shard;
  shards = shard_count shard;
  opening = opening_of shard;
  clock = clock_of shard;
  contents = contents_of shard;
}

-- counts and ratings are no larger than the rows before the phase, and two acts of each commit up
-- to the clock, can have made them
pub record IsWithin (state : ShardState) : Type 0 where
  -- the bids on each item
  pub bids : (id : ItemId) → (state.contents (Item id)).bids.bids ≤ MOST_KEPT + 2 * state.clock
  -- the comments about each user
  pub comments : (user : ℕ) →
      (state.contents (User user)).comments.comments ≤ MOST_KEPT + 2 * state.clock
  -- the rating of each user
  pub ratings : (user : ℕ) →
      unsigned_abs (state.contents (User user)).comments.rating ≤ 5 * MOST_KEPT + 10 * state.clock

-- a shard with which a phase may open: of this number, of so many, at clock 0
pub record IsInitial (shards number : ℕ) (state : ShardState) : Type 0 where
  -- the shard has this number
  pub number_is : state.number ≡ number
  -- the shard is one of so many
  pub shards_is : state.shards ≡ shards
  -- no commit has taken the shard
  pub clock_is : state.clock ≡ 0
  -- the shard's counts and ratings fit
  pub within : IsWithin state

-- a shard of which nothing is known
abbrev pub no_shard : ShardState
no_shard = record {
  number = 0;
  shards = 0;
  opening = record { users = 0; categories = 0 };
  clock = 0;
  contents = λ object. blank;
}

-- the shard of this number
abbrev pub state_at : List ShardState → ℕ → ShardState
state_at states s = slice_index_or states s no_shard

-- shards with which a phase may open, numbered from 0
abbrev pub AreInitial : List ShardState → Type 0
AreInitial states = (s : ℕ) → s < length states → IsInitial (length states) s (state_at states s)
