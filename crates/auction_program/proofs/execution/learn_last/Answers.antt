use Rattle.std.proofs.Common.{rules, ◌≡◌, ◌++◌, [], List, Option, Some, None, refl, ap, subst, MatchOption}
use mathlib.Core.List.{IsPrefix}
use Rattle.auction_rows.specs.declared.rows.Row.{Row}
use Rattle.auction_program.proofs.execution.learn_last.Goals as goal

-- where nothing was told there are no phases
none_told : (told : Option (List (List Row))) (all : List (List Row)) → ((last : List (List Row)) → told ≡ Some last → ⊥) → MatchOption told (all ≡ []) (λ last. last ≡ all) → all ≡ []
none_told None all other none = none
none_told (Some last) all other same = absurd (other last refl)

-- what knows what was told last knows all phases
all_known : (told all phases : List (List Row)) → told ≡ all → IsPrefix told phases → IsPrefix all phases
all_known told all phases same known = subst (λ (last : List (List Row)). IsPrefix last phases) same known

pub returns-in-Some : goal.returns-in-Some
returns-in-Some g c = λ all last.
    let same = subst (λ o. MatchOption o (all ≡ []) (λ told. told ≡ all)) c.in-Some.is last in
    all_known c.in-Some.told all _ same (search rules)

pub returns-in_default : goal.returns-in_default
returns-in_default g c = λ all last.
    let none : all ≡ [] = none_told c.args.told all c.in_default.not-Some last in
    (c.args.window.now, ap (λ (phases : List (List Row)). phases ++ c.args.window.now) none)
