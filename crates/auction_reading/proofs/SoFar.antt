-- What the records that were read ask for, and the records that are left.
use Rattle.std.proofs.Common.{◌≡◌, ◌<◌, ◌+◌, ◌∷◌, ◌∙◌, ◌++◌, ◌||◌, not, ℕ, Bool, true, false, List, [], Option, Some, Result, Ok, Err, refl, sym, ap, arith, nat_lt, append_assoc}
use Rattle.std.proofs.lemmas.{Bool.{le-ltb}, List.{append-nil}}
use Rattle.csv.specs.Reading.{ReadRecord, default_config, source_of}
use Rattle.csv.specs.declared.reader.Reader.{Reader}
use Rattle.record_reading.proofs.AskingLemmas.{ask_is, ask_more}
use Rattle.record_reading.proofs.RecordsLeft.{read_end, read_more}
use Rattle.record_reading.specs.Asking.{Asked, asked_in, with_record}
use Rattle.record_reading.specs.{Records.{and_then, read_record}, inner.RecordsLeft.{Left}}
use Rattle.record_reading.specs.declared.inputs.{ReadFault.{ReadFault}, TheConstants.{MOST_RECORDS}}
use Rattle.record_reading.specs.declared.record.Record.{Record}
use Rattle.record_reading.specs.declared.inputs.ReadFault.TheVariants as fault
use Rattle.auction_reading.specs.Scripts.{input_of, read_records, records_of}
use Rattle.auction_reading.specs.inner.Progress.{SoFar}

one_before : (r : Result (List Record) ReadFault) (said : List Record) (first : Record)
    → and_then (and_then r (λ others. Ok (first ∷ others))) (λ others. Ok (said ++ others)) ≡ and_then r (λ others. Ok ((said ++ (first ∷ [])) ++ others))
one_before (Ok others) said first = ap Ok (sym (append_assoc said (first ∷ []) others))
one_before (Err f) said first = refl

-- a record without a fault
pub so_far_more : (workers : ℕ) (all : List (List (List ℕ))) (count : ℕ) (begun : Bool) (fields : List (List ℕ)) (rest : List (List (List ℕ))) (asked : Asked) (first : Record)
    → SoFar workers all count begun (fields ∷ rest) asked → count < MOST_RECORDS → read_record workers (count + 1) begun fields ≡ Ok first → first.worker < workers
    → SoFar workers all (count + 1) (begun || not first.is_row) rest (with_record first asked)
unfolding read_records
so_far_more workers all count begun fields rest asked first so_far room e below =
    let in_room : nat_lt MOST_RECORDS (count + 1) ≡ false = le-ltb MOST_RECORDS (count + 1) (omega arith) in
    record {
      said = so_far.said ++ (first ∷ []);
      read = so_far.read ∙ (rw (in_room, e) (one_before (read_records workers (count + 1 + 1) (begun || not first.is_row) rest) so_far.said first));
      asks = ask_more workers so_far.said first asked so_far.asks below;
    }

-- the first record with a fault
so_far_fault : (workers : ℕ) (all : List (List (List ℕ))) (count : ℕ) (begun : Bool) (fields : List (List ℕ)) (rest : List (List (List ℕ))) (asked : Asked) (f : ReadFault)
    → SoFar workers all count begun (fields ∷ rest) asked → count < MOST_RECORDS → read_record workers (count + 1) begun fields ≡ Err f
    → read_records workers 1 false all ≡ Err f
unfolding read_records
so_far_fault workers all count begun fields rest asked f so_far room e =
    let in_room : nat_lt MOST_RECORDS (count + 1) ≡ false = le-ltb MOST_RECORDS (count + 1) (omega arith) in
    so_far.read ∙ (rw (in_room, e) refl)

-- one record too many
so_far_long : (workers : ℕ) (all : List (List (List ℕ))) (begun : Bool) (fields : List (List ℕ)) (rest : List (List (List ℕ))) (asked : Asked)
    → SoFar workers all MOST_RECORDS begun (fields ∷ rest) asked → read_records workers 1 false all ≡ Err fault.Long
unfolding read_records
so_far_long workers all begun fields rest asked so_far = so_far.read

-- no record left
pub so_far_all : (workers : ℕ) (all : List (List (List ℕ))) (count : ℕ) (begun : Bool) (asked : Asked)
    → SoFar workers all count begun [] asked → and_then (read_records workers 1 false all) (λ said. Ok (asked_in workers said)) ≡ Ok asked
unfolding read_records
so_far_all workers all count begun asked so_far =
    let said = so_far.said in
    let read : read_records workers 1 false all ≡ Ok said = so_far.read ∙ ap Ok (append-nil said) in
    let same : asked_in workers said ≡ asked = sym (ask_is workers said asked so_far.asks) in
    rw (read, same) refl

-- the reader's bytes from here on hold the records that are left
pub record IsReading {R : Type 0} (rem : R → Option (List ℕ)) (workers : ℕ) (bytes : List ℕ) (count : ℕ) (begun : Bool) (reader : Reader R) (asked : Asked) : Type 0 where
  pub source : List ℕ
  pub known : source_of rem reader ≡ Some source
  pub rest : List (List (List ℕ))
  pub left : Left reader.state source rest
  pub so_far : SoFar workers (records_of bytes) count begun rest asked

-- a record without a fault
pub reading_more : {R : Type 0} (rem : R → Option (List ℕ)) (workers : ℕ) (bytes : List ℕ) (count : ℕ) (begun : Bool) (a b : Reader R) (asked : Asked) (fields : List (List ℕ)) (said : Record)
    → IsReading rem workers bytes count begun a asked → a.config ≡ default_config → ReadRecord rem a b true fields → count < MOST_RECORDS → read_record workers (count + 1) begun fields ≡ Ok said → said.worker < workers
    → IsReading rem workers bytes (count + 1) (begun || not said.is_row) b (with_record said asked)
reading_more rem workers bytes count begun a b asked fields said h config read room e within =
    let (z, at, more, first, left) = read_more rem a b fields h.source h.rest config h.known h.left read in
    record {
      source = z;
      known = at;
      rest = more;
      left = left;
      so_far = so_far_more workers (records_of bytes) count begun fields more asked said (rw first at h.so_far) room e within;
    }

-- the first record with a fault
pub reading_fault : {R : Type 0} (rem : R → Option (List ℕ)) (workers : ℕ) (bytes : List ℕ) (count : ℕ) (begun : Bool) (a b : Reader R) (asked : Asked) (fields : List (List ℕ)) (f : ReadFault)
    → IsReading rem workers bytes count begun a asked → a.config ≡ default_config → ReadRecord rem a b true fields → count < MOST_RECORDS → read_record workers (count + 1) begun fields ≡ Err f
    → input_of workers bytes ≡ Err f
reading_fault rem workers bytes count begun a b asked fields f h config read room e =
    let (z, at, more, first, left) = read_more rem a b fields h.source h.rest config h.known h.left read in
    let fails = so_far_fault workers (records_of bytes) count begun fields more asked f (rw first at h.so_far) room e in
    rw fails refl

-- one record too many
pub reading_long : {R : Type 0} (rem : R → Option (List ℕ)) (workers : ℕ) (bytes : List ℕ) (begun : Bool) (a b : Reader R) (asked : Asked) (fields : List (List ℕ))
    → IsReading rem workers bytes MOST_RECORDS begun a asked → a.config ≡ default_config → ReadRecord rem a b true fields
    → input_of workers bytes ≡ Err fault.Long
reading_long rem workers bytes begun a b asked fields h config read =
    let (z, at, more, first, left) = read_more rem a b fields h.source h.rest config h.known h.left read in
    let fails = so_far_long workers (records_of bytes) begun fields more asked (rw first at h.so_far) in
    rw fails refl

-- no record left
pub reading_end : {R : Type 0} (rem : R → Option (List ℕ)) (workers : ℕ) (bytes : List ℕ) (count : ℕ) (begun : Bool) (a b : Reader R) (asked : Asked) (fields : List (List ℕ))
    → IsReading rem workers bytes count begun a asked → a.config ≡ default_config → ReadRecord rem a b false fields
    → input_of workers bytes ≡ Ok asked
reading_end rem workers bytes count begun a b asked fields h config read =
    let none = read_end rem a b fields h.source h.rest config h.known h.left read in
    so_far_all workers (records_of bytes) count begun asked (rw none at h.so_far)
