-- One part more, and one window more.
use Rattle.std.proofs.Common.{◌≡◌, suc, ◌+◌, List, [], ◌∷◌, ◌++◌, length, ap, sym, ◌∙◌, subst, arith, length-append}
use Rattle.std.proofs.lemmas.List.Elements.{All-push}
use mathlib.Core.List.{IsPrefix}
use Rattle.std.specs.Prelude.{All}
use Rattle.published_parts.proofs.Prefixes.{prefix_shorter, prefix_whole}

-- a prefix with one part less is the parts before the last
pub before_last : {E : Type 0} (old new before : List (List E)) (last : List E) → new ≡ before ++ last ∷ [] → IsPrefix old new → length new ≡ suc (length old) → before ≡ old
before_last old new before last is begins len =
    let long : length new ≡ length before + 1 = ap length is ∙ length-append before (last ∷ []) in
    let same_length : length before ≡ length old = omega arith in
    prefix_whole before old (prefix_shorter before old new (last ∷ [], sym is) begins (omega arith)) (omega arith)

-- one more of which the same holds
pub one_more : {W : Type 0} (P : W → Type 0) (window : W) (made more : List W) → more ≡ made ++ window ∷ [] → P window → All P made → All P more
one_more P window made more pushed holds all = subst (All P) (sym pushed) (All-push P made window all holds)
