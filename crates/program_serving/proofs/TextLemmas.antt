-- Two texts, written one after the other.
use Rattle.std.proofs.Common.{ℕ, ◌+◌, List, ◌++◌, Option, length, take, sym, subst}
use Rattle.std.proofs.{KnownBytes.{Appends-trans}, Math.Seq.{take-append-add}}
use Rattle.std.specs.Io.KnownBytes.{Appends}
use Rattle.byte_texts.specs.Writing.{IsPartWritten}

pub part_of_added : (old mid new : Option (List ℕ)) (text added : List ℕ) → Appends old mid text → IsPartWritten mid new added → IsPartWritten old new (text ++ added)
part_of_added old mid new text added first part =
    (length text + part.0, subst (Appends old new) (sym (take-append-add text added part.0)) (Appends-trans old mid new text (take part.0 added) first part.1))
