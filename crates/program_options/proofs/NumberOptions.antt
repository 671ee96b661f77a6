-- An option of numbers that a program has, and the number that was found for it.
use Rattle.std.proofs.Common.{◌≡◌, ℕ, [], ◌∷◌, Option, Some, refl, sym, subst, arith}
use Rattle.clap.specs.{Simple.{App, built}, Walk.{Rule, Text}}
use Rattle.program_options.proofs.Numerals.{number_said}
use Rattle.program_options.specs.Options.{SaysNumber, number_of, number_rule}
use Rattle.program_options.specs.Words.{HasNumberOption, HaveNumbers, IsOneNumber, rules_of}

-- its rule, where help has so many words for its number, and how that is built
abbrev given_rule : Text → ℕ → ℕ → Text → ℕ → Rule
given_rule id least greatest usual names = record (number_rule id least greatest usual) { value_names = names }

abbrev built_rule : Text → ℕ → ℕ → Text → ℕ → Rule
built_rule id least greatest usual names =
    record (given_rule id least greatest usual names) { range = Some (record { start_inclusive = 1; end_inclusive = 1 }) }

-- the number that was found for an option is the one that its text says
pub number_by : {program : App} {id : Text} {least greatest : ℕ} → HasNumberOption program id least greatest → (text : Text → Option Text) (number : ℕ) → HaveNumbers program text
    → SaysNumber least greatest (text id) number → number ≡ number_of (text id)
number_by {program} {id} {least} {greatest} has text number numbers said = number_said least greatest (text id) number (numbers id least greatest has) said

module _ (program : App) (id : Text) (least greatest : ℕ) (usual : Text) (names : ℕ) where
  -- a program has the option that has this rule, and this one once it is built
  pub has_number : (id ≡ [] → ⊥) → rules_of program id ≡ given_rule id least greatest usual names ∷ []
      → rules_of (built program) id ≡ built_rule id least greatest usual names ∷ [] → HasNumberOption program id least greatest
  has_number named given filled = record {
    named = named;
    given = subst (IsOneNumber id least greatest) (sym given) (record { own = refl; simple = refl; action = refl; parser = refl; usual = omega arith }, omega arith);
    filled = subst (IsOneNumber id least greatest) (sym filled) (record { own = refl; simple = refl; action = refl; parser = refl; usual = omega arith }, omega arith);
  }

  pub number_is : (id ≡ [] → ⊥) → rules_of program id ≡ given_rule id least greatest usual names ∷ []
      → rules_of (built program) id ≡ built_rule id least greatest usual names ∷ []
      → (text : Text → Option Text) (number : ℕ) → HaveNumbers program text → SaysNumber least greatest (text id) number → number ≡ number_of (text id)
  number_is named given filled = number_by (has_number named given filled)
