-- How lines are read, and passed over.
use Rattle.std.specs.Prelude.{ℕ, ◌≡◌, ◌<◌, ◌++◌, ◌⊎◌, Bool, List, [], ◌∷◌, Option, None, Some, true, false, length}
use Rattle.csv.specs.{Reading.{reader_state, source_of, strip_bom}, declared.reader.Reader.{Reader}}
use Rattle.record_reading.specs.{Lines.{has_no_feed, line_feed}, Reading.{IsPlain}}
use Rattle.record_reading.specs.{declared.buffers.TheConstants.{ROOM_TO_READ}, inner.RecordsLeft.{Left}}
use Rattle.live_reading.specs.LineBuffers.{lines_left}
use Rattle.live_reading.specs.declared.line_buffer.LineBuffer.{LineBuffer}
use Rattle.live_reading.specs.declared.{line_skipping.Front.{Front}, live_lines.Said.{Said}}
use Rattle.live_reading.specs.declared.line_skipping.Front.TheVariants as fronts
use Rattle.live_reading.specs.declared.live_lines.Said.TheVariants as says

-- the reader underneath a buffer of lines
abbrev pub underneath : {R : Type 0} → LineBuffer R → R
underneath l = l.reader

-- A reader has these records left.
pub record HasLeft {R : Type 0} (remaining : R → Option (List ℕ)) (reader : Reader R)
    (rest : List (List (List ℕ))) : Type 0 where
  pub plain : IsPlain reader
  pub source : List ℕ
  pub known : source_of remaining reader ≡ Some source
  pub left : Left (reader_state reader) source rest

-- the worker of a record that a line says is one of so many
abbrev pub IsOneOf : ℕ → Option Said → Type 0
IsOneOf workers None = Unit {0}
IsOneOf workers (Some (says.Record one)) = one.worker < workers
IsOneOf workers (Some (says.Fault fault)) = Unit {0}

-- Some bytes begin with a line, and this rest is behind it.
pub record HasFirstLine (bytes rest : List ℕ) : Type 0 where
  pub content : List ℕ
  pub no_feed : has_no_feed content ≡ true
  pub bytes_are : (bytes ≡ content ++ (line_feed ∷ rest)) ⊎ ((bytes ≡ content) × (rest ≡ []))

-- this rest of some bytes is behind such a front
abbrev pub IsPast : Front → List ℕ → List ℕ → Type 0
IsPast fronts.Mark bytes rest = rest ≡ strip_bom bytes
IsPast fronts.Line bytes rest = HasFirstLine bytes rest

-- of a text that begins with such a front this is left: the front is passed over whole, or what is
-- passed over belongs to it, and it may go on behind the text or end with it
abbrev pub Passes : Front → List ℕ → List ℕ → Bool → Type 0
Passes front text left true = (more : List ℕ) → IsPast front (text ++ more) (left ++ more)
Passes front text left false = (length left < ROOM_TO_READ) × (IsPast front left left
    × ((more rest : List ℕ) → IsPast front (left ++ more) rest → IsPast front (text ++ more) rest))

-- Of some bytes such a front is passed over: a buffer has left what is behind it.
pub record HasPassed {R : Type 0} (remaining : R → Option (List ℕ)) (front : Front)
    (bytes : List ℕ) (next : LineBuffer R) : Type 0 where
  pub rest : List ℕ
  pub past : IsPast front bytes rest
  pub left : lines_left remaining next ≡ Some rest
