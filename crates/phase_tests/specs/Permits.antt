-- Permits and keys that these tests make by hand.
use Rattle.std.specs.Prelude.{◌≡◌, ℕ, List}
use Rattle.shard_boxes.specs.{Keys.{BoxId, KeyState}, States.{ShardState}}
use Rattle.phase_transactions.specs.{Performing.{HaveOpening}, Workers.{WorkerState, IsIdle}}

-- a permit for these boxes, whose shards are of an auction with its users and categories
pub record IsPermitFor (initial : List ShardState) (boxes : List BoxId)
    (permit : WorkerState) : Type 0 where
  pub of : permit.key.boxes ≡ boxes
  pub users : HaveOpening initial permit.opening

-- the key of the only worker of these boxes, which holds no shard
pub record IsOnlyKey (workers : ℕ) (boxes : List BoxId) (key : KeyState) : Type 0 where
  pub one : 1 ≡ workers
  pub of : key.boxes ≡ boxes
  pub worker : key.worker ≡ 0
  pub idle : IsIdle key
