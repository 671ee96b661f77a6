-- Guesses after one is noted, and what no guess says.
use Rattle.std.proofs.Common.{◌≡◌, ◌<◌, ℕ, zero, suc, Bool, true, false, ◌||◌, List, [], ◌∷◌, ◌++◌, set, refl, subst, sym, arith}
use Rattle.std.proofs.lemmas.{Bool.{false≢true}, Option.{none-some, same_Some}}
use Rattle.std.specs.Prelude.{Some, slice_get}
use Rattle.indexmap.specs.Layout.{set_value_at}
use Rattle.auction_rows.{proofs.RequestLemmas.{same_object-true}, specs.Footprint.{is_hot}}
use Rattle.auction_rows.specs.{Requests.{same_object}, declared.requests.Object.{Object}}
use Rattle.worker_slices.specs.{Guessing.{AreGuessed, MayStand}, Slicing.{hot_objects}}
use Rattle.worker_slices.specs.declared.slices.Hot.{Hot}

written : (guesses : List ℕ) (i guess : ℕ) → guess < 255 → slice_get (set guesses i guess) i ≡ Some 255 → ⊥
written [] i guess less is = none-some 255 is
written (first ∷ guesses) zero guess less is = absurd (omega (arith, less, same_Some guess 255 is))
written (first ∷ guesses) (suc i) guess less is = written guesses i guess less is

-- a guess that is written is a place
pub written_there : (guesses : List ℕ) (i j guess : ℕ) → i ≡ j → guess < 255 → slice_get (set guesses i guess) j ≡ Some 255 → ⊥
written_there guesses i j guess same less is = written guesses i guess less (subst (λ (k : ℕ). slice_get (set guesses i guess) k ≡ Some 255) (sym same) is)

-- and no other guess becomes none
pub written_elsewhere : (guesses : List ℕ) (i j guess : ℕ) → guess < 255 → (slice_get guesses j ≡ Some 255 → ⊥) → slice_get (set guesses i guess) j ≡ Some 255 → ⊥
written_elsewhere [] i j guess less may is = may is
written_elsewhere (first ∷ guesses) zero zero guess less may is = absurd (omega (arith, less, same_Some guess 255 is))
written_elsewhere (first ∷ guesses) zero (suc j) guess less may is = may is
written_elsewhere (first ∷ guesses) (suc i) zero guess less may is = may is
written_elsewhere (first ∷ guesses) (suc i) (suc j) guess less may is = written_elsewhere guesses i j guess less may is

-- a hot object may stand there
guessed_if_hot : (guesses : List ℕ) (objects : List Object) (object : Object) → AreGuessed guesses objects → is_hot objects object ≡ true → MayStand guesses object
guessed_if_hot guesses [] object all hot = absurd (false≢true hot)
guessed_if_hot guesses (first ∷ objects) object all hot = by (same_object first object) refl hot (guessed_if_hot guesses objects object all.1) where
  by : (b : Bool) → same_object first object ≡ b → (b || is_hot objects object) ≡ true → (is_hot objects object ≡ true → MayStand guesses object) → MayStand guesses object
  by true same hot later = subst (MayStand guesses) (same_object-true first object same) all.0
  by false same hot later = later hot

-- one that may not is not hot
pub unguessed : (guesses : List ℕ) (objects : List Object) (object : Object) → AreGuessed guesses objects → (MayStand guesses object → ⊥) → false ≡ is_hot objects object
unguessed guesses objects object all out = by (is_hot objects object) refl where
  by : (b : Bool) → is_hot objects object ≡ b → false ≡ b
  by true hot = absurd (out (guessed_if_hot guesses objects object all hot))
  by false hot = refl

-- one object more is noted
pub one_more_guessed : (old new : List ℕ) (hots : List (Object × Hot)) (object : Object) (hot : Hot) → AreGuessed old (hot_objects hots) →
    ((other : Object) → MayStand old other → MayStand new other) → MayStand new object → AreGuessed new (hot_objects (hots ++ (object, hot) ∷ []))
one_more_guessed old new [] object hot all kept noted = (noted, tt)
one_more_guessed old new (first ∷ hots) object hot all kept noted = (kept first.0 all.0, one_more_guessed old new hots object hot all.1 kept noted)

-- a write at a place leaves the objects
pub same_names : (hots : List (Object × Hot)) (place : ℕ) (new : Hot) → hot_objects (set_value_at hots place new) ≡ hot_objects hots
same_names (first ∷ hots) (suc place) new = λ i. first.0 ∷ same_names hots place new i
same_names hots place new = refl
