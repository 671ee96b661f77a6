-- After a request no record without a fault is a row.
use Rattle.std.proofs.Common.{◌≡◌, ◌&&◌, ℕ, Bool, true, false, List, Option, Some, None, Result, Ok, Err, sym, ap, if◌then◌else◌, nat_lt, inl, inr}
use Rattle.std.{proofs.lemmas.Bool.{cases_Bool}, specs.{Option.{ok_or}, Result.{result_map_both}}}
use Rattle.auction_rows.specs.declared.requests.Request.{Request}
use Rattle.record_reading.specs.{Fields.{number}, Kinds.{has_count}}
use Rattle.record_reading.specs.Records.{and_then, checked, field, kind_in, read_record, request_of}
use Rattle.record_reading.specs.declared.fields.{Kind.{Kind}, RequestKind.{RequestKind}}
use Rattle.record_reading.specs.declared.inputs.{Cause.{Cause}, ReadFault.{ReadFault}}
use Rattle.record_reading.specs.declared.record.Record.{Record}
use Rattle.record_reading.specs.declared.inputs.Cause.TheVariants as cause
use Rattle.record_reading.specs.declared.inputs.ReadFault.TheVariants as fault

row_of_count : (enough : Bool) (r : Result Request Cause) (row : Bool) (w : ℕ) (said : Record)
    → (if enough then and_then {B = Record} r (λ request. Ok (record { is_row = row; worker = w; request = request })) else Err cause.Fields) ≡ Ok said → row ≡ said.is_row
row_of_count true (Ok request) row w said e =
    let same : record { is_row = row; worker = w; request = request } ≡ said = cc e in
    ap (λ (x : Record). x.is_row) same
row_of_count enough r row w said e = absurd (cc e)

-- a row without a fault stands after no request
not_late : (k : Result Kind Cause) (count : ℕ) (request_in : RequestKind → Result Request Cause) (w : ℕ) (said : Record)
    → and_then k (λ kind. if kind.is_row && true then Err cause.Late
    else if has_count kind.request count then and_then {B = Record} (request_in kind.request) (λ request. Ok (record { is_row = kind.is_row; worker = w; request = request })) else Err cause.Fields) ≡ Ok said
    → said.is_row ≡ false
not_late (Err f) count request_in w said e = absurd (cc e)
not_late (Ok kind) count request_in w said e = elim (cases_Bool kind.is_row) [
  | inl row ↦ absurd (cc (rw row at e))
  | inr request ↦ sym (row_of_count (has_count kind.request count) (request_in kind.request) false w said (rw request at e))
]

checked_by : (o : Option ℕ) (workers : ℕ) (check : ℕ → Result Record Cause) (said : Record) (f g : ReadFault) (h : Cause → ReadFault)
    → and_then {B = Record} (ok_or o f) (λ worker. if nat_lt worker workers then result_map_both {U = Record} (λ x. x) h (check worker) else Err g) ≡ Ok said
    → (w : ℕ) × (check w ≡ Ok said)
checked_by None workers check said f g h e = absurd (cc e)
checked_by (Some w) workers check said f g h e = (w, within (nat_lt w workers) (check w) e) where
  within : (b : Bool) (r : Result Record Cause) → (if b then result_map_both {U = Record} (λ x. x) h r else Err g) ≡ Ok said → r ≡ Ok said
  within true (Ok x) e = cc e
  within b r e = absurd (cc e)

-- a record that stands after a request is no row
pub request_after : (workers place : ℕ) (fields : List (List ℕ)) (said : Record) → read_record workers place true fields ≡ Ok said → said.is_row ≡ false
request_after workers place fields said e =
    let (w, checks) = checked_by (number 32 (field fields 0)) workers (λ w. checked true w fields) said (fault.Line place cause.Number) (fault.Worker place) (λ c. fault.Line place c) e in
    not_late (kind_in fields) _ (λ kind. request_of kind fields) w said checks
