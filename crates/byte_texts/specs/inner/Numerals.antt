-- The digits of a number where they lie.
use Rattle.std.specs.Prelude.{◌≡◌, ℕ, ◌≤◌, List, decimal, length, take}

-- the first bytes, so many, are a number's digits
pub record HasDigits (bytes : List ℕ) (len number : ℕ) : Type 0 where
  pub digits : take len bytes ≡ decimal number
  pub within : len ≤ length bytes
