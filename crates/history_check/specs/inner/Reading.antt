-- What is read of a text, and of a line.
use Rattle.std.specs.Prelude.{ℕ, ◌≡◌, Bool, true, false, List, [], ◌∷◌, Option, None, Some, ⊤, ◌==◌}
use Rattle.history_check.specs.Texts.{lines_of}

-- a line is the next one of what is left to read, if this is known; or there is none
abbrev pub ReadsLine : Option (List ℕ) → Option (List ℕ) → Bool → List ℕ → Type 0
ReadsLine None new found line = ⊤
ReadsLine (Some text) new true line = (rest : List ℕ) × (new ≡ Some rest)
    × (lines_of text ≡ line ∷ lines_of rest)
ReadsLine (Some text) new false line = lines_of text ≡ []

abbrev pub is_space : ℕ → Bool
is_space byte = byte == 32
