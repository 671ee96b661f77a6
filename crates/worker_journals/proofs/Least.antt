-- The least of numbers.
use Rattle.std.proofs.Common.{◌≡◌, ◌<◌, ℕ, List, get_or}
use Rattle.std.specs.Prelude.{Option, None, MatchOption}
use Rattle.worker_journals.specs.inner.Places.{IsLeast}

-- of the first i numbers this is the least, or there is none
abbrev pub LeastSoFar : List (Option ℕ) → ℕ → Option (ℕ × ℕ) → Type 0
LeastSoFar numbers i least =
    MatchOption least ((k : ℕ) → k < i → get_or numbers k None ≡ None) (λ found. IsLeast numbers i found.0 found.1)
