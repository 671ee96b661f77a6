-- What the functions that read records say of their readers and of their faults.
use Rattle.std.specs.Prelude.{◌≡◌, true, IfErr, Result}
use Rattle.csv.specs.Reading.{Ready, default_config, is_flexible, reader_config, reader_trim}
use Rattle.csv.specs.declared.reader.Reader.{Reader}
use Rattle.csv.specs.declared.reader.Trim.TheVariants as trim
use Rattle.record_reading.specs.declared.inputs.ReadFault.{ReadFault}
use Rattle.record_reading.specs.declared.inputs.ReadFault.TheVariants as fault

-- a reader of records with no header row, of any number of fields, that trims nothing
abbrev pub IsPlain : {R : Type 0} → Reader R → Type 0
IsPlain r = (reader_config r ≡ default_config) × (reader_trim r ≡ trim.None) × Ready r
    × (is_flexible r ≡ true)

-- a fault of the input itself, and not of the reader or of memory
abbrev pub IsInputFault : ReadFault → Type 0
IsInputFault (fault.Line place cause) = Unit {0}
IsInputFault (fault.Worker place) = Unit {0}
IsInputFault fault.Long = Unit {0}
IsInputFault fault.Read = ⊥
IsInputFault fault.Memory = ⊥

-- a result that is no such fault
abbrev pub HasNoInputFault : {T : Type 0} → Result T ReadFault → Type 0
HasNoInputFault result = IfErr result (λ why. IsInputFault why → ⊥)
