-- The records that a reader of records has left.
use Rattle.std.specs.Prelude.{ℕ, ◌≡◌, ◌<◌, false, List, length}
use Rattle.csv.specs.{Machine.{ends_at_end}, Reading.{default_config, records_from}}
use Rattle.csv.specs.declared.parser.State.{State}

-- These are the records that are left in state s with the bytes y.
pub record Left (s : State) (y : List ℕ) (rows : List (List (List ℕ))) : Type 0 where
  pub turns : ℕ
  pub enough : length y < turns
  pub between : ends_at_end s ≡ false
  pub are : rows ≡ records_from default_config turns s y
