-- What the faults of a log's file tell.
use Rattle.std.specs.Prelude.{◌≡◌, ℕ, List, Option, None, Some, string_bytes}
use Rattle.log_file.specs.declared.faults.LogCause.{TheVariants.{Text}, LogCause}
use Rattle.log_file.specs.declared.faults.LogFileFault.{TheVariants.{At, Memory}, LogFileFault}

-- a fault names a file and what is wrong with it, unless it is one of memory
abbrev pub NamesFile : {T : Type 0} → List ℕ → LogCause T → LogFileFault T → Type 0
NamesFile path cause (At name told) = (string_bytes name ≡ path) × (told ≡ cause)
NamesFile path cause Memory = Unit {0}

-- what is wrong with the text of a log, if this cause is of it
abbrev pub text_cause : {T : Type 0} → LogCause T → Option T
text_cause (Text fault) = Some fault
text_cause _ = None

-- what is wrong with the text of a log, if this fault tells it
abbrev pub text_fault : {T : Type 0} → LogFileFault T → Option T
text_fault (At name cause) = text_cause cause
text_fault Memory = None
