-- The lines of a text.
use Rattle.std.specs.Prelude.{◌≡◌, ◌≢◌, ◌⊎◌, ◌+◌, ◌==◌, ◌<◌, ◌≤◌, ℕ, List, count_by, length, slice_index, take}

-- The beginning of a text that is whole lines: it is empty or ends with a line's end, and no line
-- ends behind it.
pub record AreWholeLines (text : List ℕ) (whole : ℕ) : Type 0 where
  pub within : whole ≤ length text
  pub ended : (whole ≡ 0) ⊎ ((last : ℕ) × ((whole ≡ last + 1) × (slice_index text last ≡ 10)))
  pub rest : (i : ℕ) → whole ≤ i → i < length text → slice_index text i ≢ 10

-- a text is whole lines to its end
abbrev pub AreLines : List ℕ → Type 0
AreLines text = AreWholeLines text (length text)

-- the number, from 1, of the line in which a place of a text is
abbrev pub line_at : List ℕ → ℕ → ℕ
line_at text at = count_by (λ byte. byte == 10) (take at text) + 1
