-- A text that is made as it should be is written as it should be.
use Rattle.std.proofs.Common.{◌≡◌, ℕ, List, Option, Result, Ok, Err, Vec, IsOkAnd, IfOk, OnOk, ap, subst}
use Rattle.std.specs.{Global.{Global}, Io.KnownBytes.{Appends}}
use Rattle.std.specs.declared.alloc.AllocError.{AllocError}
use Rattle.byte_texts.specs.Writing.{IsPartWritten, WritesText}
use Rattle.byte_texts.specs.declared.writing.WriteFault.{TheVariants.{Memory, Write}, WriteFault}

pub written_as : {W T : Type 0} (contents : W → Option (List ℕ)) (old new : W) (text : List ℕ) (made : Result (Vec ℕ Global) AllocError) (result : Result T WriteFault)
    → IfOk made (λ bytes. bytes.items ≡ text)
    → OnOk result (IsOkAnd made (λ bytes. Appends (contents old) (contents new) bytes.items))
    → (result ≡ Err Write → IsOkAnd made (λ bytes. IsPartWritten (contents old) (contents new) bytes.items))
    → (result ≡ Err Memory → new ≡ old)
    → WritesText contents old new text result
written_as contents old new text (Ok bytes) (Ok x) same whole part memory = record { whole = subst (Appends (contents old) (contents new)) same whole; part = tt; memory = tt }
written_as contents old new text (Ok bytes) (Err fault) same whole part memory = record {
  whole = tt;
  part = λ is. subst (IsPartWritten (contents old) (contents new)) same (part (ap Err is));
  memory = λ is. memory (ap Err is);
}
written_as contents old new text (Err refused) (Ok x) same whole part memory = absurd whole
written_as contents old new text (Err refused) (Err fault) same whole part memory = record { whole = tt; part = λ is. absurd (part (ap Err is)); memory = λ is. memory (ap Err is) }
