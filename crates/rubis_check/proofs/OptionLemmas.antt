-- The program's options are simple ones, and one names a file.
use Rattle.std.proofs.Common.{◌≡◌, ◌∙◌, List, ℕ, [], Option, Some, None, true, refl, ap}
use Rattle.std.specs.{Borrow.{Bor}, Prelude.{option_map, unwrap_or}}
use Rattle.clap.specs.{Faults.{is_simple_and_free}, Simple.{App}}
use Rattle.rubis_check.specs.Words.{program}

free : is_simple_and_free program ≡ true
free = refl

pub is_free : (a : App) → a ≡ program → is_simple_and_free a ≡ true
is_free a same = ap is_simple_and_free same ∙ free

-- the name that a value gives, or none
pub name_found : (found : Option (Bor (List ℕ))) (none : Bor (List ℕ)) (value : Option (List ℕ)) → none.now ≡ [] → option_map (λ s. s.now) found ≡ value
    → (unwrap_or found none).now ≡ unwrap_or value []
name_found None none value empty is = empty ∙ ap (λ v. unwrap_or v []) is
name_found (Some name) none value empty is = ap (λ v. unwrap_or v []) is
