-- A text that lists the elements of a list.
use Rattle.std.proofs.Common.{arith, ◌≡◌, ◌++◌, ◌+◌, ◌<◌, ◌≤◌, ℕ, List, [], ◌∷◌, zero, suc, Option, Some, None, IsSome, take, get_or, slice_get, length, append_assoc, refl, sym, ap, ◌∙◌}
use Rattle.std.proofs.lemmas.Grind.{flat_map-append}
use Rattle.std.proofs.lemmas.List.{append-nil, get_or_default, take_all, take_more}
use Rattle.std.{proofs.lemmas.Option.{slice_get-get_or, slice_get_within}, specs.List.{flat_map}}

-- a text to which a word and the first elements of a list were added, and the next one
pub one_listed : {X : Type 0} (f : X → List ℕ) (text word now more : List ℕ) (xs : List X) (i : ℕ) (x : X) → i < length xs → x ≡ get_or xs i x
    → now ≡ text ++ (word ++ flat_map f (take i xs)) → more ≡ now ++ f x → more ≡ text ++ (word ++ flat_map f (take (i + 1) xs))
one_listed f text word now more xs i x within here listed added =
    rw (take_more xs i x within, sym here, flat_map-append f (take i xs) (x ∷ []), append-nil (f x), added, listed, append_assoc, append_assoc) refl

-- a text to which a word and the first elements of a list were added, and the next one, read by its index
pub read_listed : {X : Type 0} (f : X → List ℕ) (text word now more : List ℕ) (xs : List X) (i : ℕ) (d : X) → i < length xs
    → now ≡ text ++ (word ++ flat_map f (take i xs)) → more ≡ now ++ f (get_or xs i d) → more ≡ text ++ (word ++ flat_map f (take (i + 1) xs))
read_listed f text word now more xs i d within = one_listed f text word now more xs i (get_or xs i d) within (get_or_default xs i d _ within)

-- and where it is looked up
pub shown_listed : {X : Type 0} (f : X → List ℕ) (text word now more : List ℕ) (xs : List X) (i : ℕ) (x : X) → slice_get xs i ≡ Some x
    → now ≡ text ++ (word ++ flat_map f (take i xs)) → more ≡ now ++ f x → more ≡ text ++ (word ++ flat_map f (take (i + 1) xs))
shown_listed f text word now more xs i x is =
    let within = slice_get_within xs i x is in
    let here : x ≡ get_or xs i x = cc (slice_get-get_or xs i x within, is) in
    one_listed f text word now more xs i x within here

-- a text to which the word and all of them were added
pub all_listed : {X : Type 0} (f : X → List ℕ) (text word now : List ℕ) (xs : List X) (i : ℕ) → length xs ≤ i → now ≡ text ++ (word ++ flat_map f (take i xs)) → now ≡ text ++ (word ++ flat_map f xs)
all_listed f text word now xs i over listed = listed ∙ ap (λ (all : List _). text ++ (word ++ flat_map f all)) (take_all i xs over)

-- where a place is within a list, what is looked up there is found
pub some_there : {X : Type 0} (xs : List X) (i : ℕ) (found : Option X) → i < length xs → found ≡ slice_get xs i → IsSome found
some_there xs i (Some x) within is = refl
some_there [] i None within is = absurd (omega (arith, within))
some_there (x ∷ xs) zero None within is = absurd (cc is)
some_there (x ∷ xs) (suc i) None within is = some_there xs i None (omega (arith, within)) is
