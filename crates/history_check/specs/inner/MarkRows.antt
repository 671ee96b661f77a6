-- How wide marks for the requests of scripts are.
use Rattle.std.specs.Prelude.{ℕ, ◌<◌, ◌≡◌, Bool, List, [], length, get_or}

-- each index has 16 places
abbrev pub AreWide : List (List Bool) → Type 0
AreWide rows = (i : ℕ) → i < length rows → length (get_or rows i []) ≡ 16
