-- What is taken of an input, record by record.
use Rattle.std.proofs.Common.{arith, ◌≡◌, ◌<◌, ◌≤◌, ◌||◌, ◌+◌, ◌∷◌, ◌++◌, [], not, ℕ, Bool, List, length, true, false, refl, if◌then◌else◌, inl, inr}
use Rattle.std.proofs.lemmas.{Bool.{cases_Bool, or_right}, List.{length-append}}
use Rattle.std.proofs.lemmas.List.Sums.{sum_by-append}
use Rattle.record_reading.specs.Asking.{Asked, requests_in, with_record}
use Rattle.record_reading.specs.declared.record.Record.{Record}

pub requests_more : (said : List Record) (first : Record) → requests_in (said ++ (first ∷ [])) ≡ requests_in said + (if first.is_row then 0 else 1)
requests_more said first = elim (cases_Bool first.is_row) [
  | inl row ↦ rw (sum_by-append, row) refl
  | inr request ↦ rw (sum_by-append, request) refl
]

-- a record adds a row at most
pub row_more : (one : Record) (asked : Asked) → length (with_record one asked).rows ≤ length asked.rows + 1
row_more one asked = elim (cases_Bool one.is_row) [
  | inl row ↦ rw (row, length-append) (omega arith)
  | inr request ↦ rw request (omega arith)
]

-- if a request was taken, it is known that one was
pub knows_more : (requests new : ℕ) (begun is_row : Bool) → (0 < requests → begun ≡ true) → new ≡ requests + (if is_row then 0 else 1) → 0 < new → (begun || not is_row) ≡ true
knows_more requests new begun true knows is some = let before : begun ≡ true = knows (omega (arith, some, is)) in rw before refl
knows_more requests new begun false knows is some = or_right begun true refl
