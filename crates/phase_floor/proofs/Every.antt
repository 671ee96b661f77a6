-- A fact of every element, by recursion and by place.
use Rattle.std.proofs.Common.{ℕ, ◌<◌, List, length, get_or}
use Rattle.std.proofs.lemmas.List.Elements.{All-from_recursion, All-get_or}
use Rattle.std.specs.List.{AllByRecursion}

pub at_place : {X : Type 0} (P : X → Type 0) (xs : List X) → AllByRecursion P xs → (k : ℕ) (d : X) → k < length xs → P (get_or xs k d)
at_place P xs h k d low = All-get_or P xs k d low (All-from_recursion P xs h)
