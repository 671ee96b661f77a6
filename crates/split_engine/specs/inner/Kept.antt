-- A worker's slices: those of the records on which it acted are kept, and the others are empty.
use Rattle.std.specs.Prelude.{◌≡◌, ℕ, suc, ◌<◌, ◌==◌, ◌&&◌, nat_lt, cond, Bool, List, [], ◌∷◌, length, slice_index_or}
use Rattle.split_engine.specs.Rules.{Rules}

-- whether a key stands at its guessed place
abbrev pub is_at : List ℕ → ℕ → ℕ → Bool
is_at keys key guess = nat_lt guess (length keys) && (slice_index_or keys guess 0 == key)

-- Each key that is kept has its slice, and its guess is where it stands.
pub record AreKept {Slice : Type 0} (guesses keys : List ℕ) (slices : List Slice) : Type 0 where
  pub long : length slices ≡ length keys
  pub within : (place : ℕ) → place < length keys → slice_index_or keys place 0 < length guesses
  pub right : (place : ℕ) → place < length keys →
      slice_index_or guesses (slice_index_or keys place 0) 0 ≡ place

module _ {Record Slice Look Request Reply Act : Type 0}
    (rules : Rules Record Slice Look Request Reply Act) where
  -- the slice of a key, by its guess
  abbrev pub kept : List ℕ → List Slice → ℕ → ℕ → Slice
  kept keys slices key guess =
      cond (is_at keys key guess) (slice_index_or slices guess rules.empty) rules.empty

  -- a slice of each record from a key on
  abbrev pub spread_from : ℕ → List ℕ → List ℕ → List Slice → List Slice
  spread_from key [] keys slices = []
  spread_from key (guess ∷ guesses) keys slices =
      kept keys slices key guess ∷ spread_from (suc key) guesses keys slices

  -- a slice of each record
  abbrev pub spread : List ℕ → List ℕ → List Slice → List Slice
  spread guesses keys slices = spread_from 0 guesses keys slices
