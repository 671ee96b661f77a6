-- Numbers in a text, each after its label.
use Rattle.std.specs.Prelude.{ℕ, List, ◌++◌, codes, decimal, Option, Some, None}

-- an id: a worker and a serial
abbrev pub id_text : ℕ → ℕ → List ℕ
id_text worker serial = decimal worker ++ codes "." ++ decimal serial

-- a number, or `-` if there is none
abbrev pub optional_text : Option ℕ → List ℕ
optional_text None = codes "-"
optional_text (Some n) = decimal n

-- a word, and a number after it
abbrev pub labelled : List ℕ → ℕ → List ℕ
labelled label n = label ++ decimal n

abbrev pub labelled_optional : List ℕ → Option ℕ → List ℕ
labelled_optional label n = label ++ optional_text n

abbrev pub labelled_id : List ℕ → ℕ → ℕ → List ℕ
labelled_id label worker serial = label ++ id_text worker serial
