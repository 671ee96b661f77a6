-- The heats of objects that entries write, and how they are ranked to be chosen.
use Rattle.std.specs.{List.{IsDistinct}, Map.{keys_of, lookup}}
use Rattle.std.specs.Ordering.{nat_cmp, on, then_cmp, flip_args}
use Rattle.std.specs.Prelude.{◌≡◌, ◌==◌, ℕ, zero, suc, nat_le, if◌then◌else◌, List, Option, Some, None, map, filter, count_by, IsPermutation, IsSorted}
use Rattle.std.specs.declared.cmp.Ordering.{Ordering}
use Rattle.auction_rows.specs.{Orders.{object_cmp}, Requests.{same_object, shard_of}}
use Rattle.auction_rows.specs.declared.requests.Object.{Object}
use Rattle.hot_choice.specs.{declared.choice.Candidate.{Candidate}, inner.Runs.{how_often}}

-- the bucket that an object is counted in
abbrev pub bucket_of : Object → ℕ
bucket_of object = shard_of object 256

-- how many objects of a list are in a bucket
abbrev pub in_bucket : List Object → ℕ → ℕ
in_bucket objects bucket = count_by (λ object. bucket_of object == bucket) objects

-- what a table has of an object with so much heat: no entry where there is none
abbrev pub heat_shown : ℕ → Option ℕ
heat_shown zero = None
heat_shown (suc n) = Some (suc n)

-- a heat that is enough
abbrev pub if_enough : ℕ → Option ℕ → Option ℕ
if_enough threshold None = None
if_enough threshold (Some n) = if nat_le threshold n then Some n else None

-- A table has each object that is in a list often enough, once, with its heat: how often it is
-- there. What else the table has is not hot enough.
pub record HasHeats (objects : List Object) (threshold : ℕ) (table : List (Object × ℕ))
    : Type 0 where
  pub once : IsDistinct same_object (keys_of table)
  pub heats : (object : Object) →
      if_enough threshold (lookup (same_object object) table)
      ≡ if_enough threshold (heat_shown (how_often objects object))

-- the object of a row of a table, and its heat
abbrev pub object_of : Object × ℕ → Object
object_of row = row.0

abbrev pub heat_of : Object × ℕ → ℕ
heat_of row = row.1

abbrev pub candidate : Object × ℕ → Candidate
candidate row = record { heat = record { 0 = heat_of row }; object = object_of row }

abbrev pub candidate_heat : Candidate → ℕ
candidate_heat c = c.heat.0

-- candidates by heat, the hotter one first, and then by object
abbrev pub candidate_cmp : Candidate → Candidate → Ordering
candidate_cmp = then_cmp (on candidate_heat (flip_args nat_cmp)) (on (λ c. c.object) object_cmp)

-- the candidates of a table: the objects that are hot enough
abbrev pub hot_ones : ℕ → List (Object × ℕ) → List Candidate
hot_ones threshold table = map candidate (filter (λ row. nat_le threshold (heat_of row)) table)

-- The candidates of a table, ranked.
pub record IsRanking (table : List (Object × ℕ)) (threshold : ℕ) (candidates : List Candidate)
    : Type 0 where
  pub all : IsPermutation (hot_ones threshold table) candidates
  pub ranked : IsSorted candidate_cmp candidates
