-- The program's options are simple ones, and what their numbers are with --fast.
use Rattle.std.proofs.Common.{◌≡◌, ◌∙◌, ℕ, Bool, true, false, refl, ap}
use Rattle.std.specs.Prelude.{if◌then◌else◌}
use Rattle.clap.specs.{Faults.{is_simple_and_free}, Simple.{App}}
use Rattle.program_opening.specs.Words.{program}

free : is_simple_and_free program ≡ true
free = refl

pub is_free : (a : App) → a ≡ program → is_simple_and_free a ≡ true
is_free a same = ap is_simple_and_free same ∙ free

pub fast_or_said : (is_fast : Bool) (number fast said : ℕ) → (is_fast ≡ true → number ≡ fast) → (is_fast ≡ false → number ≡ said)
    → number ≡ (if is_fast then fast else said)
fast_or_said true number fast said is_it is_other = is_it refl
fast_or_said false number fast said is_it is_other = is_other refl
