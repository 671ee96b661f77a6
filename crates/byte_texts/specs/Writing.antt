-- What the writing of a text leaves.
use Rattle.std.specs.Io.KnownBytes.{Appends}
use Rattle.std.specs.Prelude.{◌≡◌, ℕ, List, take, Option, Result, IfErr, OnOk}
use Rattle.byte_texts.specs.declared.writing.WriteFault.{TheVariants.{Memory, Write}, WriteFault}

-- a prefix of the text was written, and nothing else
abbrev pub IsPartWritten : Option (List ℕ) → Option (List ℕ) → List ℕ → Type 0
IsPartWritten old new text = (n : ℕ) × Appends old new (take n text)

-- A text is written, by what the writer holds before and after.
pub record WritesText {W T : Type 0} (contents : W → Option (List ℕ)) (old new : W)
    (text : List ℕ) (result : Result T WriteFault) : Type 0 where
  -- whole
  pub whole : OnOk result (Appends (contents old) (contents new) text)
  -- or a part of it, if the writer fails
  pub part : IfErr result (λ fault. fault ≡ Write →
      IsPartWritten (contents old) (contents new) text)
  -- or nothing, if there is no memory for it
  pub memory : IfErr result (λ fault. fault ≡ Memory → new ≡ old)
