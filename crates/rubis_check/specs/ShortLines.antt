-- What a reader has left that fails at a long line.
use Rattle.std.specs.Prelude.{ℕ, List, Option}
use Rattle.rubis_check.specs.declared.short_lines.ShortLines.{ShortLines}

-- what the reader underneath has left
abbrev pub left_of_lines : {I : Type 0} → (I → Option (List ℕ)) → ShortLines I → Option (List ℕ)
left_of_lines remaining r = remaining r.reader
