-- The parts of an input that is read line by line.
use Rattle.std.specs.List.{filter_map}
use Rattle.std.specs.Prelude.{ℕ, ◌≡◌, ◌≤◌, ◌+◌, ◌++◌, ◌⊎◌, List, [], ◌∷◌, length, Option, None, Some, if◌then◌else◌}
use Rattle.csv.specs.Reading.{strip_bom}
use Rattle.auction_rows.specs.declared.requests.Opened.{Opened}
use Rattle.record_reading.specs.Asking.{asked_of, asked_in, requests_in, row_in, rows}
use Rattle.record_reading.specs.declared.inputs.TheConstants.{MOST_ROWS_OF_A_PART}
use Rattle.record_reading.specs.declared.record.Record.{Record}
use Rattle.live_reading.specs.{LineBuffers.{lines_left}, LiveLines.{lines_of, lines_say}}
use Rattle.live_reading.specs.{LiveReading.{records_said}, declared.live_lines.Said.{Said}}
use Rattle.live_reading.specs.declared.live_parts.LiveEnd.{TheVariants.{More, Fault, All}, LiveEnd}
use Rattle.live_reading.specs.declared.live_parts.{LiveInput.{LiveInput}, LivePart.{LivePart}}
use Rattle.live_reading.specs.declared.live_lines.Said.TheVariants as says

-- An input has yet to say all this.
pub record HasToSay {R : Type 0} (remaining : R → Option (List ℕ)) (left : LiveInput R)
    (all : List Said) : Type 0 where
  pub bytes : List ℕ
  pub known : lines_left remaining left.lines ≡ Some bytes
  pub all_is : all ≡ lines_say left.workers (left.count + 1) left.begun
      (lines_of (if left.is_unmarked then bytes else strip_bom bytes))

-- of how many workers an input is
abbrev pub live_workers : {R : Type 0} → LiveInput R → ℕ
live_workers left = left.workers

-- an input is of so many workers after a part too
abbrev pub KeepsLiveWorkers : {R : Type 0} → ℕ → LiveEnd R → Type 0
KeepsLiveWorkers workers (More left) = live_workers left ≡ workers
KeepsLiveWorkers workers (Fault fault left) = live_workers left ≡ workers
KeepsLiveWorkers workers All = Unit {0}

-- the row that a line says, if it says one
abbrev pub row_said : Said → Option Opened
row_said (says.Record one) = row_in one
row_said (says.Fault fault) = None

-- the rows that lines say
abbrev pub rows_said : List Said → List Opened
rows_said all = filter_map row_said all

-- An input has yet to say this behind a part whose records say that: no row after a request.
pub record GoesOnWith {R : Type 0} (remaining : R → Option (List ℕ)) (said : List Record)
    (left : LiveInput R) (behind : List Said) : Type 0 where
  pub late : 1 ≤ requests_in said → rows_said behind ≡ []
  pub left_is : HasToSay remaining left behind

-- a part that says this may end before its input does: it has a request, or all the rows that it
-- may have
abbrev pub MayEndEarly : List Record → Type 0
MayEndEarly said = (1 ≤ requests_in said) ⊎ (length (rows said) ≡ MOST_ROWS_OF_A_PART)

-- how an input goes on after records that say this: if there may be more, a request was read, or
-- all the rows that a part may have, or a line with a fault is next
abbrev pub GoesOnAfter : {R : Type 0} → (R → Option (List ℕ)) → List Said → List Record →
    LiveEnd R → Type 0
GoesOnAfter remaining all said (More left) = (behind : List Said)
    × (MayEndEarly said × ((all ≡ records_said said ++ behind)
    × GoesOnWith remaining said left behind))
GoesOnAfter remaining all said (Fault fault left) = (behind : List Said)
    × ((all ≡ records_said said ++ (says.Fault fault ∷ behind))
    × GoesOnWith remaining said left behind)
GoesOnAfter remaining all said All = all ≡ records_said said

-- A part of an input: what it asks for is what its first records say, at most so many of them
-- requests, and few of them rows.
pub record IsLivePart {R : Type 0} (remaining : R → Option (List ℕ)) (workers most : ℕ)
    (all : List Said) (part : LivePart R) : Type 0 where
  pub said : List Record
  pub asked : asked_of part.input ≡ asked_in workers said
  pub few : requests_in said ≤ most
  pub few_rows : length (rows said) ≤ MOST_ROWS_OF_A_PART
  pub goes_on : GoesOnAfter remaining all said part.end
