-- What the text of an input asks for.
use Rattle.std.specs.List.{filter}
use Rattle.std.specs.Prelude.{ℕ, ◌≡◌, ◌++◌, Bool, false, not, ◌||◌, ◌+◌, List, [], ◌∷◌, map, nat_lt, Result, Ok, Err, if◌then◌else◌}
use Rattle.csv.specs.Reading.{default_config, records, strip_bom}
use Rattle.auction_reading.specs.declared.scripts.Input.{Input}
use Rattle.record_reading.specs.Records.{and_then, read_record}
use Rattle.record_reading.specs.declared.inputs.{ReadFault.{ReadFault}, TheConstants.{MOST_RECORDS}}
use Rattle.record_reading.specs.declared.record.Record.{Record}
use Rattle.record_reading.specs.declared.inputs.ReadFault.TheVariants as fault
pub use Rattle.record_reading.specs.Asking.{Asked, asked_in, asked_of, requests_in, row_in, rows, script}

-- what an input asks for
abbrev pub asked_by : Input → Asked
asked_by input = record {
  rows = input.rows.items;
  scripts = map (λ script. script.items) input.scripts.items;
}

-- the records of a text, as `csv` reads them
abbrev pub records_of : List ℕ → List (List (List ℕ))
records_of bytes = records default_config (strip_bom bytes)

-- what the records say, in order, or their first fault; they are counted from `place`, and `begun`
-- tells whether a request stands before them
unfoldable pub read_records : ℕ → ℕ → Bool → List (List (List ℕ)) → Result (List Record) ReadFault
read_records workers place begun [] = Ok []
read_records workers place begun (fields ∷ rest) =
    if nat_lt MOST_RECORDS place then Err fault.Long
    else and_then (read_record workers place begun fields) (λ first.
    and_then (read_records workers (place + 1) (begun || not first.is_row) rest) (λ others.
    Ok (first ∷ others)))

-- what a text asks of so many workers, or its first fault
abbrev pub input_of : ℕ → List ℕ → Result Asked ReadFault
input_of workers bytes =
    and_then (read_records workers 1 false (records_of bytes)) (λ all. Ok (asked_in workers all))

-- the rows stand before all requests
abbrev pub RowsComeFirst : List Record → Type 0
RowsComeFirst all = all ≡ filter (λ said. said.is_row) all ++ filter (λ said. not said.is_row) all
