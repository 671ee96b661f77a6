-- Which phase an index of a script reaches, by the quotas of a joined and a split phase.
use Rattle.std.specs.Prelude.{ℕ, ◌+◌, ◌*◌, ◌-◌, ◌/◌, ◌%◌, ◌==◌, nat_lt, min, Bool, if◌then◌else◌}

-- even phases are joined, odd ones split
abbrev pub is_split : ℕ → Bool
is_split phase = (phase % 2) == 1

-- the phase that the request with an index reaches: each round of a joined and a split phase takes both quotas
abbrev pub reach : ℕ → ℕ → ℕ → ℕ
reach joined split index =
    2 * (index / (joined + split)) + (if nat_lt (index % (joined + split)) joined then 0 else 1)

-- the first index that reaches a phase or a later one
abbrev pub first_of : ℕ → ℕ → ℕ → ℕ
first_of joined split phase =
    (phase / 2) * (joined + split) + (if is_split phase then joined else 0)

-- how many requests a phase takes of a script of some length
abbrev pub quota : ℕ → ℕ → ℕ → ℕ → ℕ
quota joined split phase len =
    min (if is_split phase then split else joined) (len - first_of joined split phase)
