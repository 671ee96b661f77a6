-- The elements of a list that stand in turn, and those that are late.
use Rattle.std.specs.Prelude.{List, [], ◌∷◌, Bool, false, not, if◌then◌else◌, Option, Some, None}

-- whether an element does not come after the last one in turn
abbrev pub is_late : {X : Type 0} → (X → X → Bool) → Option X → X → Bool
is_late before None x = false
is_late before (Some last) x = not (before last x)

-- the elements that each come after the one in turn before them
unfoldable pub in_turn : {X : Type 0} → (X → X → Bool) → Option X → List X → List X
in_turn before last [] = []
in_turn before last (x ∷ xs) =
    if is_late before last x then in_turn before last xs else x ∷ in_turn before (Some x) xs

-- the others
unfoldable pub late : {X : Type 0} → (X → X → Bool) → Option X → List X → List X
late before last [] = []
late before last (x ∷ xs) =
    if is_late before last x then x ∷ late before last xs else late before (Some x) xs

-- of elements in order, the first ones, up to those that don't come before x
unfoldable pub front : {X : Type 0} → (X → X → Bool) → X → List X → List X
front lt x [] = []
front lt x (y ∷ ys) = if lt y x then y ∷ front lt x ys else []

-- and the others
unfoldable pub rest : {X : Type 0} → (X → X → Bool) → X → List X → List X
rest lt x [] = []
rest lt x (y ∷ ys) = if lt y x then rest lt x ys else y ∷ ys
