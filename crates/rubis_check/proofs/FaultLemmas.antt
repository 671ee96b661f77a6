-- A fault of writing that is handed on.
use Rattle.std.proofs.Common.{◌≡◌, refl, sym, ◌∙◌}
use Rattle.std.specs.Prelude.{Result, Ok, Err, IfErr, IsErr, IsErrAnd}
use Rattle.byte_texts.specs.declared.writing.WriteFault.{WriteFault}
use Rattle.byte_texts.specs.declared.writing.WriteFault.TheVariants as writing
use Rattle.rubis_check.specs.declared.faults.Fault.{TheVariants.{Write}, Fault}

module _ {T : Type 0} where
  -- it is the fault of a result
  pub write_is : (r : Result T Fault) (fault is : WriteFault) → IsErr r × IsErrAnd r (λ e. e ≡ Write fault) → r ≡ Err (Write is) → fault ≡ is
  write_is (Ok t) fault is told same = absurd (let no = same in cc)
  write_is (Err e) fault is told same = let one : e ≡ Write is = cc in let both = sym told.1 ∙ one in cc

  -- what holds unless the writer failed
  pub unless_failed : (P : Type 0) (r : Result T Fault) (fault : WriteFault) → IsErr r × IsErrAnd r (λ e. e ≡ Write fault) → (fault ≡ writing.Memory → P)
      → IfErr r (λ e. ¬ (e ≡ Write writing.Write) → P)
  unless_failed P (Ok t) fault told holds = tt
  unless_failed P (Err e) writing.Write told holds = λ other. absurd (other told.1)
  unless_failed P (Err e) writing.Memory told holds = λ other. holds refl
