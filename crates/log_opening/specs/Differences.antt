-- Where texts differ.
use Rattle.std.specs.Prelude.{◌≡◌, ◌≢◌, ◌≤◌, ℕ, List, length, slice_get, take}

-- The first place at which a text differs from another: one may end there.
pub record IsFirstDifference (text other : List ℕ) (at : ℕ) : Type 0 where
  pub within : at ≤ length text
  pub same : take at text ≡ take at other
  pub differs : slice_get text at ≢ slice_get other at
