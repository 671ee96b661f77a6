-- Where a line ends.
use Rattle.std.proofs.Common.{◌≡◌, ◌≢◌, ◌⊎◌, inl, inr, ◌==◌, ℕ, ◌-◌, Bool, true, false, true≢false, cond, List, [], ◌∷◌, ◌++◌, length, length-append, take, drop, Option, None, Some, IfSome, All, refl, sym, ap, ◌∙◌, subst, arith}
use Rattle.std.proofs.lemmas.{Bool.{eqb-true, eqb-false}, List.{take_at}}
use Rattle.std.proofs.lemmas.List.Elements.{recursion_from_All}
use Rattle.std.specs.Io.{BufRead.{take_through, drop_through}, appended_bytes, StopsAt}
use Rattle.application_log.specs.Lines.{HasNoEnd, IsWritten}

-- what is read of some bytes through the first line's end: all of them, if there is none; or a line
abbrev pub IsThrough : List ℕ → List ℕ → List ℕ → Type 0
IsThrough bytes through rest = (HasNoEnd bytes × (through ≡ bytes))
    ⊎ ((line : List ℕ) × HasNoEnd line × (through ≡ line ++ 10 ∷ []) × (bytes ≡ line ++ 10 ∷ rest))

through_step : (x : ℕ) (xs : List ℕ) (b : Bool) → (x == 10) ≡ b → IsThrough xs (take_through 10 xs) (drop_through 10 xs) →
    IsThrough (x ∷ xs) (cond b (x ∷ []) (x ∷ take_through 10 xs)) (cond b xs (drop_through 10 xs))
through_step x xs true e h = let is : x ≡ 10 = eqb-true x 10 e in inr ([], tt, ap (λ y. y ∷ []) is, ap (λ y. y ∷ xs) is)
through_step x xs false e (inl all) = inl ((eqb-false x 10 e, all.0), ap (λ ys. x ∷ ys) all.1)
through_step x xs false e (inr line) = inr (x ∷ line.0, (eqb-false x 10 e, line.1), ap (λ ys. x ∷ ys) line.2, ap (λ ys. x ∷ ys) line.3)

pub through : (xs : List ℕ) → IsThrough xs (take_through 10 xs) (drop_through 10 xs)
through [] = inl (tt, refl)
through (x ∷ xs) = through_step x xs (x == 10) refl (through xs)

-- bytes without a line's end are no line
pub no_line : (bytes line rest : List ℕ) → HasNoEnd bytes → bytes ≡ line ++ 10 ∷ rest → ⊥
no_line [] [] rest h e = cc
no_line [] (y ∷ line) rest h e = cc
no_line (x ∷ bytes) [] rest h e = h.0 (cc)
no_line (x ∷ bytes) (y ∷ line) rest h e = no_line bytes line rest h.1 (cc)

-- two texts that begin with the same line are one
pub same_line : (line other rest more : List ℕ) → HasNoEnd line → HasNoEnd other → line ++ 10 ∷ rest ≡ other ++ 10 ∷ more → (line ≡ other) × (rest ≡ more)
same_line [] [] rest more h g e = (refl, cc)
same_line [] (y ∷ other) rest more h g e = absurd (g.0 (cc))
same_line (x ∷ line) [] rest more h g e = absurd (h.0 (cc))
same_line (x ∷ line) (y ∷ other) rest more h g e =
    let head : x ≡ y = cc in let both = same_line line other rest more h.1 g.1 (cc) in
    ((λ i. head i ∷ both.0 i), both.1)

-- what was read does not end a line: then there is none, and all was read
pub unended_read : (bytes through rest : List ℕ) → IsThrough bytes through rest → ((line : List ℕ) → through ≡ line ++ 10 ∷ [] → ⊥) → HasNoEnd bytes × (through ≡ bytes)
unended_read bytes through rest (inl all) other = all
unended_read bytes through rest (inr one) other = absurd (other one.0 one.2)

but_last : (line : List ℕ) (last : ℕ) → take (length (line ++ last ∷ []) - 1) (line ++ last ∷ []) ≡ line
but_last line last = take_at line (last ∷ []) (length (line ++ last ∷ []) - 1) (omega (arith, length-append line (last ∷ [])))

drop_none : (xs : List ℕ) → drop 0 xs ≡ xs
drop_none [] = refl
drop_none (x ∷ xs) = refl

-- no line ends before the last byte that was read into an empty buffer
pub before_last : (old read line : List ℕ) (last : ℕ) → old ≡ [] → StopsAt (appended_bytes old read) 10 → read ≡ line ++ last ∷ [] → HasNoEnd line
before_last old read line last none stops is =
    let whole : appended_bytes old read ≡ line ++ last ∷ [] = ap (λ o. drop (length o) read) none ∙ drop_none read ∙ is in
    recursion_from_All (λ byte. byte ≢ 10) line
    (subst (All (λ byte. byte ≢ 10)) (but_last line last) (subst (λ bytes. StopsAt bytes 10) whole stops))

-- what was read into an empty buffer ends no line: then none ends any more, and all was read
pub none_read : (known : Option (List ℕ)) (old read : List ℕ) → old ≡ [] → IfSome known (λ all. read ≡ old ++ take_through 10 all) →
    ((line : List ℕ) → read ≡ line ++ 10 ∷ [] → ⊥) → IfSome known (λ all. HasNoEnd all × (read ≡ all))
none_read None old read none is other = tt
none_read (Some all) old read none is other =
    let same = is ∙ ap (λ o. o ++ take_through 10 all) none in
    let both = unended_read all (take_through 10 all) (drop_through 10 all) (through all) (λ line ends. other line (same ∙ ends)) in
    (both.0, same ∙ both.1)

-- nothing is written of a request without a line
pub unwritten : (o : Option (List ℕ)) (old new : List ℕ) → IsWritten o old new false → (o ≡ None) × (new ≡ old)
unwritten None old new is = (refl, is.1)
unwritten (Some line) old new is = absurd (true≢false (sym is.0))

pub written : (o : Option (List ℕ)) (old new : List ℕ) → IsWritten o old new true → (line : List ℕ) × (o ≡ Some line) × (new ≡ old ++ line)
written None old new is = absurd (true≢false is.0)
written (Some line) old new is = (line, refl, is.1)
