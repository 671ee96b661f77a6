-- What an input says line by line, if each line is a text of its own.
use Rattle.std.specs.List.{prefix_len}
use Rattle.std.specs.Prelude.{ℕ, ◌==◌, ◌+◌, ◌||◌, not, Bool, false, List, [], ◌∷◌, nat_le, take, Option, Some, None, Result, Ok, Err, if◌then◌else◌}
use Rattle.csv.specs.Reading.{default_config, records, strip_bom}
use Rattle.record_reading.specs.{Lines.{line_feed}, Records.{read_record, worker_of}}
use Rattle.record_reading.specs.declared.buffers.TheConstants.{ROOM_TO_READ}
use Rattle.record_reading.specs.declared.{inputs.ReadFault.{ReadFault}, record.Record.{Record}}
use Rattle.record_reading.specs.declared.inputs.Cause.TheVariants as cause
use Rattle.record_reading.specs.declared.inputs.ReadFault.TheVariants as fault
use Rattle.live_reading.specs.declared.live_lines.Said.{Said}
use Rattle.live_reading.specs.declared.live_lines.Said.TheVariants as says

-- the lines of a text that begins with this byte, if these are the lines behind it
abbrev pub in_front : ℕ → List (List ℕ) → List (List ℕ)
in_front byte [] = (byte ∷ []) ∷ []
in_front byte (line ∷ others) = (byte ∷ line) ∷ others

-- the lines of a text, each with its line feed, which the last may lack
unfoldable pub lines_of : List ℕ → List (List ℕ)
lines_of [] = []
lines_of (byte ∷ rest) =
    if byte == line_feed then (byte ∷ []) ∷ lines_of rest else in_front byte (lines_of rest)

-- whether a line has as many bytes in front of its line feed as are read at a time
unfoldable pub is_long : List ℕ → Bool
is_long line = nat_le ROOM_TO_READ (prefix_len (λ byte. not (byte == line_feed)) line)

-- the worker that the first of these records names
abbrev pub first_worker : ℕ → List (List (List ℕ)) → Option ℕ
first_worker workers [] = None
first_worker workers (fields ∷ rest) = worker_of workers fields

-- a line has this fault, and names this worker
abbrev pub faulty_line : Option ℕ → ReadFault → Said
faulty_line worker fault = says.Fault (record { worker = worker; fault = fault })

-- what a line says that is one record, and names this worker
abbrev pub one_says : Option ℕ → Result Record ReadFault → Said
one_says worker (Ok one) = says.Record one
one_says worker (Err fault) = faulty_line worker fault

-- what a line says that has these records: nothing if it is blank
abbrev pub records_say : ℕ → ℕ → Bool → List (List (List ℕ)) → Option Said
records_say workers place begun [] = None
records_say workers place begun (fields ∷ []) =
    Some (one_says (worker_of workers fields) (read_record workers place begun fields))
records_say workers place begun (fields ∷ second ∷ rest) =
    Some (faulty_line (worker_of workers fields) (fault.Line place cause.Fields))

-- what a line says, of which no other line is a part; it is the one with this number among those
-- that are not blank, and `begun` tells whether a request stands before it
unfoldable pub line_says : ℕ → ℕ → Bool → List ℕ → Option Said
line_says workers place begun line =
    if is_long line
    then Some (faulty_line
    (first_worker workers (records default_config (take ROOM_TO_READ line)))
    (fault.Line place cause.Long))
    else records_say workers place begun (records default_config line)

-- whether a request stands before what is behind this
abbrev pub begun_after : Bool → Said → Bool
begun_after begun (says.Record one) = begun || not one.is_row
begun_after begun (says.Fault fault) = begun

-- what a line says, and then what those behind it say
abbrev pub then_say : Option Said → List Said → (Said → List Said) → List Said
then_say None blank others = blank
then_say (Some one) blank others = one ∷ others one

-- what lines say, in their order
unfoldable pub lines_say : ℕ → ℕ → Bool → List (List ℕ) → List Said
lines_say workers place begun [] = []
lines_say workers place begun (line ∷ rest) =
    then_say (line_says workers place begun line) (lines_say workers place begun rest) (λ one.
    lines_say workers (place + 1) (begun_after begun one) rest)

-- what an input of so many workers says, line by line
abbrev pub live_says : ℕ → List ℕ → List Said
live_says workers bytes = lines_say workers 1 false (lines_of (strip_bom bytes))
