-- The order of replies.
use Rattle.std.specs.Ordering.{is_lt, nat_cmp, ordering_then}
use Rattle.std.specs.Prelude.{List, [], ◌∷◌, Bool, if◌then◌else◌}
use Rattle.std.specs.declared.cmp.Ordering.{Ordering}
use Rattle.auction_rows.specs.declared.rows.Entry.{Entry}

-- a list in order with one more, which goes before the first that doesn't come before it
unfoldable pub put_in : {X : Type 0} → (X → X → Bool) → X → List X → List X
put_in before x [] = x ∷ []
put_in before x (y ∷ ys) = if before y x then y ∷ put_in before x ys else x ∷ y ∷ ys

-- a list in order; of two that tie, the one that stood first stays first
unfoldable pub sorted : {X : Type 0} → (X → X → Bool) → List X → List X
sorted before [] = []
sorted before (x ∷ xs) = put_in before x (sorted before xs)

-- by worker, and then by index
abbrev pub precedence : Entry → Entry → Ordering
precedence a b = ordering_then (nat_cmp a.worker b.worker) (nat_cmp a.index b.index)

abbrev pub comes_before : Entry → Entry → Bool
comes_before a b = is_lt (precedence a b)

-- the entries by worker, then index, then place
abbrev pub in_order : List Entry → List Entry
in_order entries = sorted comes_before entries
