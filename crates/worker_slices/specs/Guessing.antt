-- Guesses of the places of the objects in a list.
use Rattle.std.specs.{List.{AllByRecursion}, Prelude.{◌≡◌, ℕ, List, Some, slice_get}}
use Rattle.auction_rows.specs.{Requests.{shard_of}, declared.requests.Object.{Object}}

-- an object may stand in the list: its guess is not the one that says nowhere
abbrev pub MayStand : List ℕ → Object → Type 0
MayStand guesses object = slice_get guesses (shard_of object 64) ≡ Some 255 → ⊥

-- each of the objects may stand there
abbrev pub AreGuessed : List ℕ → List Object → Type 0
AreGuessed guesses objects = AllByRecursion (MayStand guesses) objects
