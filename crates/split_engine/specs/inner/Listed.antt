-- A short list as its model has it.
use Rattle.std.specs.Prelude.{List, [], ◌∷◌}
use Rattle.split_engine.specs.declared.few.Kept.{TheVariants.{Nothing, One, Two, Three, Four}, Kept}

abbrev pub listed : {T : Type 0} → Kept T → List T
listed Nothing = []
listed (One a) = a ∷ []
listed (Two a b) = a ∷ b ∷ []
listed (Three a b c) = a ∷ b ∷ c ∷ []
listed (Four a b c d) = a ∷ b ∷ c ∷ d ∷ []
