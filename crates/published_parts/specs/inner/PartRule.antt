-- The rule of the list of parts, and what a step of it tells.
use Rattle.std.specs.Prelude.{ℕ, ◌≡◌, ◌==◌, true, List, [], ◌∷◌, ◌++◌, length, MatchBool}
use Rattle.logbook.specs.Pages.{Cell, Step, View, Book, Named}

-- what holds of a list's two words
pub record IsKept {E : Type 0} (cells : List Cell) (log : List E) : Type 0 where
  -- the first is the number of parts, the second stays 0
  pub words : cells ≡ (length log, true) ∷ (0, true) ∷ []

-- the first word of a list
abbrev pub head_of : Book → Named
head_of log = record { tracked = true; key = 0; book = log }

-- the part was added to all that was known; or the list had more, and all of it is known now
abbrev pub Adds : {E : Type 0} → Step E → View E ℕ → ℕ → View E ℕ → Type 0
Adds step before found after =
    MatchBool (found == step.old) (after.0 ≡ before.0 ++ step.ask ∷ []) (length after.0 ≡ found)
