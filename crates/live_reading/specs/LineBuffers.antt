-- What a buffer of lines has left.
use Rattle.std.specs.{Io.KnownBytes.{prepend_known}, Prelude.{ℕ, ◌-◌, List, Option, drop, take}}
use Rattle.live_reading.specs.declared.line_buffer.LineBuffer.{LineBuffer}

-- what was read and not taken yet
abbrev pub held : {R : Type 0} → LineBuffer R → List ℕ
held l = take (l.filled - l.at) (drop l.at l.buffer.items)

-- what it holds, and then what the reader underneath has left, if that is known
abbrev pub lines_left : {R : Type 0} → (R → Option (List ℕ)) → LineBuffer R → Option (List ℕ)
lines_left remaining l = prepend_known (held l) (remaining l.reader)
