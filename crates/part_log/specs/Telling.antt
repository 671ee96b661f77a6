-- What is put by before it is told.
use Rattle.std.specs.Io.KnownBytes.{Appends, Keeps}
use Rattle.std.specs.Prelude.{◌≡◌, ◌⊎◌, ℕ, Bool, List, Option, Result, Ok, Err}
use Rattle.byte_texts.specs.Writing.{IsPartWritten}
use Rattle.byte_texts.specs.declared.writing.WriteFault.TheVariants as write
use Rattle.part_log.specs.{Files.{IsEndedAfter, IsFoundAfter}, declared.log.TellFault.{TellFault}}
use Rattle.part_log.specs.declared.log.TellFault.TheVariants.{Log, Write}

-- the log has accepted the rows of a part, and a prefix of its text was written; or neither has
-- changed
abbrev pub IsLoggedFirst : Option (List ℕ) → Option (List ℕ) → List ℕ
    → Option (List ℕ) → Option (List ℕ) → List ℕ → Type 0
IsLoggedFirst log next_log rows writer next_writer text =
    (Appends log next_log rows × IsPartWritten writer next_writer text)
    ⊎ (Keeps log next_log × Keeps writer next_writer)

-- a fault of the log, after which nothing was written
abbrev pub IsUnlogged : TellFault → Type 0
IsUnlogged (Log fault) = Unit {0}
IsUnlogged (Write fault) = ⊥

-- how far a part was told at a fault: at one of the log neither has changed; at one of the writer,
-- which is no want of memory, the log has accepted its rows, and a prefix of its text was written
abbrev pub IsToldSoFar : TellFault → Option (List ℕ) → Option (List ℕ) → List ℕ
    → Option (List ℕ) → Option (List ℕ) → List ℕ → Type 0
IsToldSoFar (Log fault) log next_log rows writer next_writer text =
    Keeps log next_log × Keeps writer next_writer
IsToldSoFar (Write fault) log next_log rows writer next_writer text =
    (fault ≡ write.Write)
    × (Appends log next_log rows × IsPartWritten writer next_writer text)

-- what a start finds in a log that was told a part with these rows: just what the log has accepted,
-- unless rows that were not put by could not be taken back
abbrev pub IsFoundBy : Result Unit TellFault → Option (List ℕ) → Option (List ℕ) → List ℕ → Type 0
IsFoundBy (Ok done) accepted found rows = found ≡ accepted
IsFoundBy (Err (Log fault)) accepted found rows = IsFoundAfter fault accepted found rows
IsFoundBy (Err (Write fault)) accepted found rows = found ≡ accepted

-- whether a log has ended after it was told a part: only a fault of the log ends it
abbrev pub IsEndedBy : Result Unit TellFault → Bool → Bool → Type 0
IsEndedBy (Ok done) before after = after ≡ before
IsEndedBy (Err (Log fault)) before after = IsEndedAfter fault before after
IsEndedBy (Err (Write fault)) before after = after ≡ before
