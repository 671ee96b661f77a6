-- The shards with which the phases of these tests begin.
use Rattle.std.specs.Prelude.{◌≡◌, ℕ, List, length, map}
use Rattle.item_shards.specs.declared.shard.Shard.{Shard}
use Rattle.shard_boxes.specs.States.{ShardState, AreInitial, state_of}
use Rattle.phase_transactions.specs.Performing.{HaveOpening}
use Rattle.test_values.specs.declared.requests.TheConstants.{OPENING}

-- four shards in which nothing is stored
pub record AreFourNew (shards : List ShardState) : Type 0 where
  pub four : length shards ≡ 4
  pub opened : AreInitial shards
  pub users : HaveOpening shards OPENING

-- a phase begins with them, of all the workers that it has
pub record BeginsWith (initial : List ShardState) (all count : ℕ)
    (shards : List Shard) : Type 0 where
  pub opening : map state_of shards ≡ initial
  pub new : AreFourNew initial
  pub workers : count ≡ all
