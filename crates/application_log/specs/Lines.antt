-- The lines of a text.
use Rattle.std.specs.List.{AllByRecursion}
use Rattle.std.specs.Prelude.{◌≡◌, ◌≢◌, ◌⊎◌, ℕ, Bool, true, false, List, [], ◌∷◌, ◌++◌, Option, None, Some}

-- no line ends in a text
abbrev pub HasNoEnd : List ℕ → Type 0
HasNoEnd = AllByRecursion (λ byte. byte ≢ 10)

-- the text of lines, each with its end
abbrev pub text_of : List (List ℕ) → List ℕ
text_of [] = []
text_of (line ∷ lines) = line ++ 10 ∷ text_of lines

-- bytes behind the last line are nothing, or may be the beginning of a line
abbrev pub IsTail : (List ℕ → Bool) → List ℕ → Type 0
IsTail is_cut bytes = (bytes ≡ []) ⊎ (is_cut bytes ≡ true)

-- a line was appended, if there is one
abbrev pub IsWritten : Option (List ℕ) → List ℕ → List ℕ → Bool → Type 0
IsWritten None old new is_logged = (is_logged ≡ false) × (new ≡ old)
IsWritten (Some line) old new is_logged = (is_logged ≡ true) × (new ≡ old ++ line)
