-- What is taken of an input for a part of it.
use Rattle.std.specs.Prelude.{ℕ, ◌≡◌, ◌<◌, ◌≤◌, ◌+◌, ◌++◌, ◌⊎◌, ◌||◌, not, List, [], ◌∷◌, Option, None, Some, true, vec_len, if◌then◌else◌}
use Rattle.record_reading.specs.Asking.{AskFor, asked_of, requests_in, with_record}
use Rattle.record_reading.specs.declared.inputs.TheConstants.{MOST_ROWS_OF_A_PART}
use Rattle.record_reading.specs.declared.record.Record.{Record}
use Rattle.live_reading.specs.{LineBuffers.{lines_left}, LiveLines.{line_says, lines_of, lines_say}}
use Rattle.live_reading.specs.LiveReading.{records_said}
use Rattle.live_reading.specs.declared.line_buffer.LineBuffer.{LineBuffer}
use Rattle.live_reading.specs.declared.line_taking.LineStop.{LineStop}
use Rattle.live_reading.specs.declared.line_taking.LineStop.TheVariants.{Full, End, Fault}
use Rattle.live_reading.specs.declared.live_lines.{LineFault.{LineFault}, Said.{Said}}
use Rattle.live_reading.specs.declared.live_parts.{LiveEnd.{LiveEnd}, LiveInput.{LiveInput}}
use Rattle.live_reading.specs.declared.part_records.Taken.{Taken}
use Rattle.live_reading.specs.declared.live_lines.Said.TheVariants as says
use Rattle.live_reading.specs.declared.live_parts.LiveEnd.TheVariants as end

-- What was taken first and what is taken now are for a part of as many workers and requests.
pub record AreForOnePart (old new : Taken) : Type 0 where
  pub workers : new.workers ≡ old.workers
  pub most : new.most ≡ old.most

-- One more record is taken.
pub record HasTaken (old : Taken) (said : Record) (new : Taken) : Type 0 where
  pub same : AreForOnePart old new
  pub asked : asked_of new.input ≡ with_record said (asked_of old.input)
  pub count : new.count ≡ old.count + 1
  pub begun : new.begun ≡ (old.begun || not said.is_row)
  pub requests : new.requests ≡ old.requests + (if said.is_row then 0 else 1)

-- No record is taken, and so many of the input's are counted now.
pub record HasCounted (old : Taken) (count : ℕ) (new : Taken) : Type 0 where
  pub same : AreForOnePart old new
  pub input : new.input ≡ old.input
  pub requests : new.requests ≡ old.requests
  pub counted : new.count ≡ count
  pub begun : new.begun ≡ old.begun

-- any record may be taken yet
abbrev pub HasRoom : Taken → Type 0
HasRoom taken = (taken.requests < taken.most) × (vec_len taken.input.rows < MOST_ROWS_OF_A_PART)

-- a part may end before its input does: a request is taken, or all the rows that it may have
abbrev pub MayEnd : Taken → Type 0
MayEnd taken = (0 < taken.requests) ⊎ (MOST_ROWS_OF_A_PART ≤ vec_len taken.input.rows)

-- a part may not end yet
abbrev pub IsOpen : Taken → Type 0
IsOpen taken = (taken.requests ≡ 0) × (vec_len taken.input.rows < MOST_ROWS_OF_A_PART)

-- what the next line says, after what was taken
abbrev pub next_says : Taken → List ℕ → Option Said
next_says taken line = line_says taken.workers (taken.count + 1) taken.begun line

-- what a line says is taken: nothing, a record, or a fault, which is counted
abbrev pub TakesSaid : Taken → Option Said → Taken → Option LineFault → Type 0
TakesSaid old None new fault = (new ≡ old) × (fault ≡ None)
TakesSaid old (Some (says.Record one)) new fault =
    (one.worker < old.workers) × (HasTaken old one new × (fault ≡ None))
TakesSaid old (Some (says.Fault met)) new fault =
    HasCounted old (old.count + 1) new × (fault ≡ Some met)

-- What was taken is the front of all that is said, and this is behind it.
pub record IsFront (all : List Said) (taken : Taken) (behind : List Said) : Type 0 where
  pub said : List Record
  pub front : all ≡ records_said said ++ behind
  pub asked : AskFor taken.workers said (asked_of taken.input)
  pub requests : taken.requests ≡ requests_in said

-- what is said by lines that are left after those that were taken
abbrev pub yet_said : Taken → List ℕ → List Said
yet_said taken left = lines_say taken.workers (taken.count + 1) taken.begun (lines_of left)

-- what is behind what was taken, if the taking stopped so and these bytes are left
abbrev pub StopsAt : List Said → Taken → LineStop → List ℕ → Type 0
StopsAt all taken Full left = IsFront all taken (yet_said taken left)
StopsAt all taken End left = IsFront all taken []
StopsAt all taken (Fault fault) left = IsFront all taken (says.Fault fault ∷ yet_said taken left)

-- the taking stops at a fault, or may go on
abbrev pub stop_at : Option LineFault → LineStop
stop_at None = Full
stop_at (Some fault) = Fault fault

-- What was taken up to the first bytes is now taken up to the second, and the taking stops so.
pub record TakesText (old : Taken) (from : List ℕ) (new : Taken) (stop : LineStop) (to : List ℕ)
    : Type 0 where
  pub same : AreForOnePart old new
  pub takes : (all : List Said) (more : List ℕ) → StopsAt all old Full (from ++ more) →
      StopsAt all new stop (to ++ more)

-- The same, up to the bytes that a buffer of lines has left, if its reader tells its bytes.
pub record TakesFrom {R : Type 0} (remaining : R → Option (List ℕ)) (lines : LineBuffer R)
    (old : Taken) (next : LineBuffer R) (new : Taken) (stop : LineStop) : Type 0 where
  pub same : AreForOnePart old new
  pub takes : (all : List Said) (from : List ℕ) → lines_left remaining lines ≡ Some from →
      StopsAt all old Full from →
      (to : List ℕ) × (lines_left remaining next ≡ Some to) × StopsAt all new stop to

-- what is left of an input after what was taken of it, if its byte order mark was
abbrev pub left_after : {R : Type 0} → Taken → LineBuffer R → LiveInput R
left_after taken lines = record {
  lines = lines;
  workers = taken.workers;
  count = taken.count;
  begun = taken.begun;
  is_unmarked = true;
}

-- how it goes on where the taking stopped so
abbrev pub end_at : {R : Type 0} → LineStop → LiveInput R → LiveEnd R
end_at Full left = end.More left
end_at (Fault fault) left = end.Fault fault left
end_at End left = end.All
