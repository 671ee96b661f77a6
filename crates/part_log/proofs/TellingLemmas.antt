-- What was put by, and what was written after it.
use Rattle.std.proofs.Common.{arith, ◌≡◌, ◌==◌, ◌∷◌, ℕ, Bool, true, false, List, [], Option, Result, Ok, Err, IfErr, OnOk, length, sym, subst, IfSome, Some, None, refl}
use Rattle.std.proofs.{KnownBytes.{Appends-nil}, lemmas.Bool.{eqb-true, false≢true}}
use Rattle.std.{proofs.lemmas.List.{take_all}, specs.Io.KnownBytes.{Appends}}
use Rattle.std.specs.Result.{IsErr, IsErrAnd}
use Rattle.byte_texts.specs.{Writing.{IsPartWritten}, declared.writing.WriteFault.{WriteFault}}
use Rattle.part_log.specs.Telling.{IsEndedBy, IsFoundBy, IsUnlogged}
use Rattle.part_log.specs.declared.log.TellFault.{TellFault}
use Rattle.part_log.specs.declared.log.TellFault.TheVariants as tell

-- what holds of an error
pub error_is : {T E : Type 0} (result : Result T E) (fault : E) (P : E → Type 0) → IsErr result × IsErrAnd result (λ x. x ≡ fault) → P fault → IfErr result P
error_is (Ok x) fault P is holds = tt
error_is (Err x) fault P is holds = subst P (sym is.1) holds

-- what holds of known bytes
pub of_known : (known : Option (List ℕ)) (P : List ℕ → Type 0) → ((all : List ℕ) → known ≡ Some all → P all) → IfSome known P
of_known None P each = tt
of_known (Some all) P each = each all refl

-- no rows add nothing
pub none_added : (log : Option (List ℕ)) (rows : List ℕ) → true ≡ (length rows == 0) → Appends log log rows
none_added log [] none = Appends-nil log
none_added log (row ∷ rows) none =
    let zero : length (row ∷ rows) ≡ 0 = eqb-true (length (row ∷ rows)) 0 (sym none) in
    absurd (omega (arith, zero))

-- rows that are not none are some
pub some_rows : (rows : List ℕ) → false ≡ (length rows == 0) → rows ≡ [] → ⊥
some_rows [] is none = absurd (false≢true is)
some_rows (row ∷ rows) is none = absurd (cc none)

-- whatever is answered, a prefix was written
pub prefix_written : {T : Type 0} (r : Result T WriteFault) (is : WriteFault) (old new : Option (List ℕ)) (text : List ℕ)
    → OnOk r (Appends old new text) → IfErr r (λ fault. (fault ≡ is) × IsPartWritten old new text) → IsPartWritten old new text
prefix_written (Ok x) is old new text whole part = (length text, subst (Appends old new) (sym (take_all (length text) text (omega arith))) whole)
prefix_written (Err fault) is old new text whole part = part.1

-- no fault of the log is told of a write
pub found_by : (result : Result Unit TellFault) → IfErr result (λ fault. IsUnlogged fault → ⊥) → (accepted found : Option (List ℕ)) (rows : List ℕ) → found ≡ accepted → IsFoundBy result accepted found rows
found_by (Err (tell.Log fault)) never accepted found rows same = absurd (never tt)
found_by result never accepted found rows same = same

pub ended_by : (result : Result Unit TellFault) → IfErr result (λ fault. IsUnlogged fault → ⊥) → (before after : Bool) → after ≡ before → IsEndedBy result before after
ended_by (Err (tell.Log fault)) never before after same = absurd (never tt)
ended_by result never before after same = same
