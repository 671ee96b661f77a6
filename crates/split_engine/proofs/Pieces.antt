-- A history of which one piece more, or the last one longer, is known.
use Rattle.std.proofs.Common.{◌≡◌, ℕ, zero, suc, ◌+◌, ◌<◌, ◌≤◌, List, [], ◌∷◌, ◌++◌, length, take, set, get_or, append_assoc, append-nil, sym, ap, ◌∙◌, arith}
use Rattle.std.proofs.{Math.{Numerals.{add-one}, Seq.{take-suc}}, lemmas.Grind.{flat_map-append}}
use Rattle.std.{proofs.lemmas.List.{length-append}, specs.List.{flat_map}}

-- one piece more
pub flat-more : {X A : Type 0} (f : X → List A) (xs : List X) (x : X) → flat_map f (xs ++ x ∷ []) ≡ flat_map f xs ++ f x
flat-more f xs x = flat_map-append f xs (x ∷ []) ∙ ap (λ l. flat_map f xs ++ l) (append-nil (f x))

-- the last piece is longer
pub flat-longer : {X A : Type 0} (f : X → List A) (xs : List X) (place : ℕ) (x d : X) (more : List A) → suc place ≡ length xs → f x ≡ f (get_or xs place d) ++ more →
    flat_map f (set xs place x) ≡ flat_map f xs ++ more
flat-longer f (y ∷ []) zero x d more at is = append-nil (f x) ∙ is ∙ ap (λ l. l ++ more) (sym (append-nil (f y)))
flat-longer f (y ∷ zs) (suc place) x d more at is =
    ap (λ l. f y ++ l) (flat-longer f zs place x d more (omega (arith, at)) is) ∙ sym (append_assoc (f y) (flat_map f zs) more)
flat-longer f xs place x d more at is = absurd (omega (arith, at))

-- how many are in the first pieces
pub flat-take : {X A : Type 0} (f : X → List A) (xs : List X) (place : ℕ) (x : X) → place < length xs → x ≡ get_or xs place x →
    length (flat_map f (take (place + 1) xs)) ≡ length (flat_map f (take place xs)) + length (f x)
flat-take f xs place x lt is =
    ap (λ n. length (flat_map f (take n xs))) (add-one place) ∙ ap (λ l. length (flat_map f l)) (take-suc xs place x lt)
    ∙ ap length (flat-more f (take place xs) (get_or xs place x)) ∙ length-append (flat_map f (take place xs)) (f (get_or xs place x))
    ∙ ap (λ y. length (flat_map f (take place xs)) + length (f y)) (sym is)

-- they are no more than there are
pub flat-part : {X A : Type 0} (f : X → List A) (xs : List X) (n : ℕ) → length (flat_map f (take n xs)) ≤ length (flat_map f xs)
flat-part f [] zero = omega arith
flat-part f [] (suc n) = omega arith
flat-part f (x ∷ xs) zero = omega arith
flat-part f (x ∷ xs) (suc n) =
    omega (arith, flat-part f xs n, length-append (f x) (flat_map f (take n xs)), length-append (f x) (flat_map f xs))
