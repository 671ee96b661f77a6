-- What the records of a text ask for, wherever it stands in an input.
use Rattle.std.specs.Prelude.{ℕ, ◌≡◌, ◌≤◌, ◌<◌, ◌+◌, ◌++◌, ◌||◌, ◌&&◌, Bool, false, not, List, [], ◌∷◌, ⊤, drop, length}
use Rattle.csv.specs.Reading.{default_config, records}
use Rattle.auction_reading.specs.{Scripts.{records_of}, declared.plain_text.Progress.{Progress}}
use Rattle.auction_reading.specs.inner.Progress.{SoFar, unmarked}
use Rattle.record_reading.specs.{Asking.{Asked, asked_of, with_record}, Lines.{EndsLine}}
use Rattle.record_reading.specs.declared.inputs.TheConstants.{MOST_RECORDS}
use Rattle.record_reading.specs.declared.record.Record.{Record}

-- what is asked after these records
abbrev pub with_records : List Record → Asked → Asked
with_records [] asked = asked
with_records (said ∷ more) asked = with_records more (with_record said asked)

-- whether a request was asked, after these records
abbrev pub begun_after : List Record → Bool → Bool
begun_after [] begun = begun
begun_after (said ∷ more) begun = begun_after more (begun || not said.is_row)

-- each record is of one of so many workers, and no row comes after a request
abbrev pub CanFollow : ℕ → Bool → List Record → Type 0
CanFollow workers begun [] = ⊤
CanFollow workers begun (said ∷ more) =
    (said.worker < workers) × ((said.is_row && begun) ≡ false)
    × CanFollow workers (begun || not said.is_row) more

-- of an input's bytes so many records were read, which ask for this, and these bytes are left
abbrev pub IsUpTo : ℕ → List ℕ → ℕ → Bool → Asked → List ℕ → Type 0
IsUpTo workers bytes count begun asked left =
    SoFar workers (records_of bytes) count begun (records default_config (unmarked count left)) asked

-- Wherever a text stands in an input, if these records can follow what was read before it, they are
-- what it says up to what is left of it.
abbrev pub SaysRecords : List ℕ → List Record → List ℕ → Type 0
SaysRecords text said left =
    (workers : ℕ) (bytes more : List ℕ) (count : ℕ) (begun : Bool) (asked : Asked) →
    count + length said ≤ MOST_RECORDS → CanFollow workers begun said →
    IsUpTo workers bytes count begun asked (text ++ more) →
    IsUpTo workers bytes (count + length said) (begun_after said begun) (with_records said asked)
    (left ++ more)

-- What was read of an input so far.
pub record WasRead : Type 0 where
  pub asked : Asked
  pub count : ℕ
  pub begun : Bool

-- what was read, as a progress holds it
abbrev pub read_by : Progress → WasRead
read_by progress = record {
  asked = asked_of progress.input;
  count = progress.count;
  begun = progress.begun;
}

-- What was read up to a text was read on to what is left of it, by the records that it says.
pub record HasRead (old : WasRead) (text : List ℕ) (new : WasRead) (left : List ℕ) : Type 0 where
  pub said : List Record
  pub says : SaysRecords text said left
  pub follows : CanFollow (length old.asked.scripts) old.begun said
  pub asked : new.asked ≡ with_records said old.asked
  pub workers : length new.asked.scripts ≡ length old.asked.scripts
  pub count : new.count ≡ old.count + length said
  pub begun : new.begun ≡ begun_after said old.begun
  pub room : new.count ≤ MOST_RECORDS

-- A line may be read from a place of a text on.
pub record MayReadLine (progress : Progress) (text : List ℕ) (at : ℕ) : Type 0 where
  pub ends : EndsLine text
  pub within : at < length text
  pub room : progress.count < MOST_RECORDS

-- The line from a place of a text on was read, and `next` is after it; or they are one place, and
-- nothing was read.
pub record ReadsLine (old : Progress) (text : List ℕ) (at : ℕ) (new : Progress)
    (next : ℕ) : Type 0 where
  pub after : at ≤ next
  pub within : next ≤ length text
  pub reads : HasRead (read_by old) (drop at text) (read_by new) (drop next text)
