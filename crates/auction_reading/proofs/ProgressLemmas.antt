-- How far an input is read, line by line.
use Rattle.std.proofs.Common.{◌≡◌, ◌==◌, ◌∷◌, ◌++◌, ◌∙◌, [], ℕ, List, Bool, Option, Result, Ok, Err, true, false, refl, sym, ap, if◌then◌else◌}
use Rattle.csv.specs.{Reading.{default_config, records, strip_bom}, declared.reader.Reader.{Reader}}
use Rattle.auction_reading.proofs.SoFar.{IsReading, so_far_all}
use Rattle.auction_reading.specs.Scripts.{input_of, read_records, records_of}
use Rattle.auction_reading.specs.declared.plain_text.Progress.{Progress}
use Rattle.auction_reading.specs.inner.Progress.{IsAtStart, IsReadUpTo, unmarked}
use Rattle.record_reading.proofs.AskingLemmas.{ask_none}
use Rattle.record_reading.proofs.LineLemmas.{feed_no_bom, none_in_none, records_after_feed}
use Rattle.record_reading.{proofs.RecordsLeft.{left_all}, specs.Asking.{asked_of, nothing_asked}}
use Rattle.record_reading.specs.{Records.{and_then}, declared.inputs.CompactInput.{CompactInput}}
use Rattle.record_reading.specs.declared.{inputs.ReadFault.{ReadFault}, record.Record.{Record}}

-- before the first record
then_all : (r : Result (List Record) ReadFault) → r ≡ and_then r (λ others. Ok ([] ++ others))
then_all (Ok others) = refl
then_all (Err fault) = refl

pub nothing_read : (workers : ℕ) (bytes : List ℕ) (input : CompactInput) → asked_of input ≡ nothing_asked workers
    → IsReadUpTo workers bytes (record { input = input; count = 0; begun = false }) bytes
nothing_read workers bytes input empty = rw empty (record {
  said = [];
  read = then_all (read_records workers 1 false (records_of bytes));
  asks = ask_none workers;
})

pub same_if : (b : Bool) (xs ys : List ℕ) → xs ≡ ys → (if b then xs else ys) ≡ ys
same_if true xs ys e = e
same_if false xs ys e = refl

-- what is put in front of the bytes that are left
abbrev pub front : ℕ → List ℕ
front count = if count == 0 then [] else (10 ∷ [])

pub front_of : (first : Bool) (count : ℕ) (source : List ℕ) → (count == 0) ≡ first
    → (records default_config (unmarked count (front count ++ source)) ≡ records default_config (unmarked count source)) × (unmarked count (front count ++ source) ≡ strip_bom (front count ++ source))
front_of true count source is = (rw is refl, rw is refl)
front_of false count source is = (rw is (records_after_feed source), rw is (sym (feed_no_bom source)))

-- and that changes nothing
pub read_up_to_front : (workers : ℕ) (bytes : List ℕ) (progress : Progress) (source : List ℕ) → IsReadUpTo workers bytes progress source
    → IsReadUpTo workers bytes progress (front progress.count ++ source) × (unmarked progress.count (front progress.count ++ source) ≡ strip_bom (front progress.count ++ source))
read_up_to_front workers bytes progress source read =
    let both = front_of (progress.count == 0) progress.count source refl in
    (rw both.0 read, both.1)

-- an input of which nothing is left
pub read_to_end : (workers : ℕ) (bytes : List ℕ) (progress : Progress) → IsReadUpTo workers bytes progress [] → input_of workers bytes ≡ Ok (asked_of progress.input)
unfolding strip_bom
read_to_end workers bytes progress read =
    let none : records default_config (unmarked progress.count []) ≡ [] = ap (records default_config) (same_if (progress.count == 0) (strip_bom []) [] refl) ∙ none_in_none in
    so_far_all workers (records_of bytes) progress.count progress.begun (asked_of progress.input) (rw none at read)

-- a reader of these bytes
pub reading_up_to : {R : Type 0} (rem : R → Option (List ℕ)) (workers : ℕ) (bytes left : List ℕ) (progress : Progress) (reader : Reader R)
    → IsAtStart rem left reader → unmarked progress.count left ≡ strip_bom left → IsReadUpTo workers bytes progress left
    → IsReading rem workers bytes progress.count progress.begun reader (asked_of progress.input)
reading_up_to rem workers bytes left progress reader at is read = record {
  source = strip_bom left;
  known = at.source;
  rest = records default_config (strip_bom left);
  left = rw at.begins (left_all (strip_bom left));
  so_far = rw is at read;
}
