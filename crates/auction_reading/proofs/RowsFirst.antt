-- Among records without a fault no row stands after a request.
use Rattle.std.proofs.Common.{◌≡◌, ◌+◌, ◌∷◌, not, ℕ, Bool, true, false, List, [], Result, Ok, Err, refl, ap, if◌then◌else◌, nat_lt, inl, inr}
use Rattle.std.{proofs.lemmas.Bool.{cases_Bool}, specs.List.{filter}}
use Rattle.record_reading.{proofs.LateRows.{request_after}, specs.Records.{and_then, read_record}}
use Rattle.record_reading.specs.declared.inputs.{ReadFault.{ReadFault}, TheConstants.{MOST_RECORDS}}
use Rattle.record_reading.specs.declared.record.Record.{Record}
use Rattle.record_reading.specs.declared.inputs.ReadFault.TheVariants as fault
use Rattle.auction_reading.specs.Scripts.{RowsComeFirst, read_records}

-- what the records say is what the first says, and then the others
parts_of : (b : Bool) (r : Result Record ReadFault) (rest : Record → Result (List Record) ReadFault) (all : List Record)
    → (if b then Err fault.Long else and_then r (λ first. and_then {B = List Record} (rest first) (λ others. Ok (first ∷ others)))) ≡ Ok all
    → (first : Record) × (others : List Record) × (r ≡ Ok first) × (rest first ≡ Ok others) × (all ≡ first ∷ others)
parts_of false (Ok first) rest all e = let (others, are, same) = others_of (rest first) e in (first, others, refl, are, same) where
  others_of : (r : Result (List Record) ReadFault) → and_then {B = List Record} r (λ others. Ok (first ∷ others)) ≡ Ok all
      → (others : List Record) × (r ≡ Ok others) × (all ≡ first ∷ others)
  others_of (Ok others) e = (others, refl, cc e)
  others_of (Err f) e = absurd (cc e)
parts_of b r rest all e = absurd (cc e)

-- after a request all are requests
requests_after : (workers place : ℕ) (rows : List (List (List ℕ))) (all : List Record) → read_records workers place true rows ≡ Ok all
    → (filter (λ said. said.is_row) all ≡ []) × (filter (λ said. not said.is_row) all ≡ all)
unfolding read_records
requests_after workers place [] all e = let none : all ≡ [] = cc e in rw none (refl, refl)
requests_after workers place (fields ∷ rest) all e =
    let (first, others, reads, read_rest, same) = parts_of (nat_lt MOST_RECORDS place) (read_record workers place true fields) (λ first. read_records workers (place + 1) true rest) all e in
    let request = request_after workers place fields first reads in
    let more = requests_after workers (place + 1) rest others read_rest in
    rw (same, request) (more.0, ap (λ (xs : List Record). first ∷ xs) more.1)

-- before it rows, and then requests
pub rows_first : (workers place : ℕ) (rows : List (List (List ℕ))) (all : List Record) → read_records workers place false rows ≡ Ok all → RowsComeFirst all
unfolding read_records
rows_first workers place [] all e = let none : all ≡ [] = cc e in rw none refl
rows_first workers place (fields ∷ rest) all e =
    let (first, others, reads, read_rest, same) = parts_of (nat_lt MOST_RECORDS place) (read_record workers place false fields) (λ first. read_records workers (place + 1) (not first.is_row) rest) all e in
    elim (cases_Bool first.is_row) [
      | inl row ↦ rw (same, row) (ap (λ (xs : List Record). first ∷ xs) (rows_first workers (place + 1) rest others (rw row at read_rest)))
      | inr request ↦
          let after = requests_after workers (place + 1) rest others (rw request at read_rest) in
          rw (same, request, after.0, after.1) refl
    ]
