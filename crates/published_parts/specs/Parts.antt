-- Lists of parts that are published.
use Rattle.std.specs.Prelude.{◌⊎◌, List}
use mathlib.Core.List.{IsPrefix}

-- one of two lists of parts begins with the other
abbrev pub AreComparable : {X : Type 0} → List (List X) → List (List X) → Type 0
AreComparable one other = IsPrefix one other ⊎ IsPrefix other one
