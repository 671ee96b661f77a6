-- How far an input is read.
use Rattle.std.specs.Prelude.{ℕ, ◌≡◌, ◌+◌, ◌++◌, ◌==◌, ◌||◌, Bool, false, not, List, Ok, Option, Some, vec_len, if◌then◌else◌}
use Rattle.csv.specs.Reading.{default_config, reader_state, records, source_of, strip_bom}
use Rattle.csv.specs.declared.reader.Reader.{Reader}
use Rattle.csv.specs.declared.parser.State.TheVariants as st
use Rattle.auction_reading.specs.Scripts.{read_records, records_of}
use Rattle.auction_reading.specs.declared.plain_text.Progress.{Progress}
use Rattle.record_reading.specs.{Asking.{AskFor, Asked, asked_of, with_record}, Records.{and_then}}
use Rattle.record_reading.specs.declared.record.Record.{Record}

-- What was asked so far is asked by the records before `rest`, which have no fault.
pub record SoFar (workers : ℕ) (all : List (List (List ℕ))) (count : ℕ) (begun : Bool)
    (rest : List (List (List ℕ))) (asked : Asked) : Type 0 where
  pub said : List Record
  pub read : read_records workers 1 false all
      ≡ and_then (read_records workers (count + 1) begun rest) (λ others. Ok (said ++ others))
  pub asks : AskFor workers said asked

-- A reader has yet to read the first record of these bytes.
pub record IsAtStart {R : Type 0} (rem : R → Option (List ℕ)) (bytes : List ℕ)
    (reader : Reader R) : Type 0 where
  pub source : source_of rem reader ≡ Some (strip_bom bytes)
  pub begins : reader_state reader ≡ st.StartRecord

-- the bytes that are left of an input, without a byte order mark if they are all of it
abbrev pub unmarked : ℕ → List ℕ → List ℕ
unmarked count left = if count == 0 then strip_bom left else left

-- of an input's bytes all was read but those that are left
abbrev pub IsReadUpTo : ℕ → List ℕ → Progress → List ℕ → Type 0
IsReadUpTo workers bytes progress left =
    SoFar workers (records_of bytes) progress.count progress.begun
    (records default_config (unmarked progress.count left)) (asked_of progress.input)

-- One more record is read.
pub record HasAdded (old : Progress) (said : Record) (new : Progress) : Type 0 where
  pub asked : asked_of new.input ≡ with_record said (asked_of old.input)
  pub workers : vec_len new.input.scripts ≡ vec_len old.input.scripts
  pub count : new.count ≡ old.count + 1
  pub begun : new.begun ≡ (old.begun || not said.is_row)
