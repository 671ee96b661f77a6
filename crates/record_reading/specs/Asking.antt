-- What records ask for: rows to open with, and a script for each worker.
use Rattle.std.specs.List.{filter_map, range_with_len}
use Rattle.std.specs.Prelude.{ℕ, ◌≡◌, ◌<◌, ◌++◌, not, ◌==◌, ◌&&◌, List, [], ◌∷◌, count_by, get_or, length, map, replicate, slice_index_or, slice_set, Option, Some, None, if◌then◌else◌}
use Rattle.auction_rows.specs.declared.requests.{Request.Request, Opened.Opened}
use Rattle.record_reading.specs.declared.inputs.CompactInput.{CompactInput}
use Rattle.record_reading.specs.declared.record.Record.{Record}

-- the rows to open with, and a script for each worker
pub record Asked : Type 0 where
  pub rows : List Opened
  pub scripts : List (List Request)

-- what an input with compact scripts asks for
abbrev pub asked_of : CompactInput → Asked
asked_of input = record { rows = input.rows.items; scripts = input.scripts.items }

-- a record as a row to open with
abbrev pub as_row : Record → Opened
as_row said = record { worker = said.worker; request = said.request }

-- the row that a record is, if it is one
abbrev pub row_in : Record → Option Opened
row_in said = if said.is_row then Some (as_row said) else None

-- the request of worker w that a record is, if it is one
abbrev pub request_by : ℕ → Record → Option Request
request_by w said = if not said.is_row && (said.worker == w) then Some said.request else None

-- the rows among the records, in their order
abbrev pub rows : List Record → List Opened
rows all = filter_map row_in all

-- the script of worker w: its requests among the records, in their order
abbrev pub script : ℕ → List Record → List Request
script w all = filter_map (request_by w) all

-- what records ask for
abbrev pub asked_in : ℕ → List Record → Asked
asked_in workers all = record {
  rows = rows all;
  scripts = map (λ w. script w all) (range_with_len 0 workers);
}

-- how many records are requests
abbrev pub requests_in : List Record → ℕ
requests_in said = count_by (λ one. not one.is_row) said

-- nothing is asked of so many workers
abbrev pub nothing_asked : ℕ → Asked
nothing_asked workers = record { rows = []; scripts = replicate workers [] }

-- what is asked with one more record: a row at the end of the rows, a request at the end of its
-- worker's script
abbrev pub with_record : Record → Asked → Asked
with_record said asked =
    if said.is_row then record asked { rows = asked.rows ++ (as_row said ∷ []) }
    else record asked {
      scripts = slice_set asked.scripts said.worker
          (slice_index_or asked.scripts said.worker [] ++ (said.request ∷ []));
    }

-- Records that say this ask for these rows, and for the scripts of so many workers.
pub record AskFor (workers : ℕ) (said : List Record) (asked : Asked) : Type 0 where
  pub rows_are : rows said ≡ asked.rows
  pub workers_are : length asked.scripts ≡ workers
  pub script_of : (w : ℕ) → w < workers → script w said ≡ get_or asked.scripts w []
