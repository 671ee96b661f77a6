-- Shards in which nothing is stored.
use Rattle.std.specs.Prelude.{◌≡◌, ℕ, ◌<◌, List}
use Rattle.auction_rows.specs.declared.{values.Opening.Opening, requests.Object.Object}
use Rattle.item_shards.specs.Values.{blank}
use Rattle.shard_boxes.specs.States.{ShardState, state_at}

-- the shard of this number of so many, at clock 0, in which nothing is stored
pub record IsBlank (opening : Opening) (shards number : ℕ) (state : ShardState) : Type 0 where
  pub number_is : state.number ≡ number
  pub shards_is : state.shards ≡ shards
  pub opening_is : state.opening ≡ opening
  pub clock_is : state.clock ≡ 0
  pub nothing : (object : Object) → state.contents object ≡ blank

-- the shards with numbers below `count`, of `shards` in all, are blank
abbrev pub AreBlank : Opening → ℕ → ℕ → List ShardState → Type 0
AreBlank opening shards count states = (s : ℕ) → s < count →
    IsBlank opening shards s (state_at states s)
