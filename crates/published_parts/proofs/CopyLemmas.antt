-- What views give of a copy, and what is shown after one operation more.
use Rattle.std.proofs.Common.{◌≡◌, List, [], ◌∷◌, ◌++◌, ap, ◌∙◌, refl}
use Rattle.std.proofs.lemmas.List.Sums.{fold-append}
use Rattle.std.specs.Fn.{Once, FnOnceReturns}
use Rattle.published_parts.specs.Views.{IsGivenBy}
use Rattle.std.specs.Prelude.{fold, Option, Some, None, Result, Ok, Err, IfOk, OnOk, MatchResult}
use Rattle.std.specs.Option.{ok_or}
use denote.Ref.{Bor}

-- what was seen was seen of some copy
pub of_some_copy : {T V F E : Type 0} (g : Once F (Bor T × Unit {0}) (Option V)) (view : F) (copy : Bor T) (given : Option V) (fault : E) (seen : Result V E)
    → FnOnceReturns g view (copy, tt) given → seen ≡ ok_or given fault → IfOk seen (IsGivenBy g view)
of_some_copy g view copy None fault seen met is = rw is tt
of_some_copy g view copy (Some v) fault seen met is = rw is (copy.now, (copy, met, refl))

-- what is taken in last was taken in after all that waited
pub shown-last : {T E S O : Type 0} (applied : S → O → S) (Q R : Type 0) (answered : Result T E) (old new : S) (waiting before : List O) (last : O)
    → MatchResult answered (λ _. (new ≡ fold applied old waiting) × Q) (λ _. R) → waiting ≡ before ++ last ∷ [] → OnOk answered ((s : S) × (new ≡ applied s last))
shown-last applied Q R (Ok x) old new waiting before last shown is = (fold applied old before, shown.0 ∙ ap (fold applied old) is ∙ fold-append applied old before (last ∷ []))
shown-last applied Q R (Err e) old new waiting before last shown is = tt
