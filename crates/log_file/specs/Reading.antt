-- What is left of a file that is read from its start.
use Rattle.std.specs.{Option.{option_map}, Prelude.{ℕ, List, Option, drop}}
use Rattle.log_file.specs.declared.reading.FromStart.{FromStart}

-- the bytes that were not read, if those that the file holds are known
abbrev pub bytes_from : {F : Type 0} → (F → Option (List ℕ)) → FromStart F → Option (List ℕ)
bytes_from held r = option_map (drop r.at) (held r.file.now)
