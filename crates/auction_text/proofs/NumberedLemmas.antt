-- A text that lists the elements of a list by their numbers.
use Rattle.std.proofs.Common.{arith, ◌≡◌, ◌++◌, ◌+◌, ◌<◌, ◌≤◌, ◌∙◌, ℕ, List, [], ◌∷◌, map, take, get_or, length, suc, append_assoc, refl, sym, ap}
use Rattle.std.proofs.lemmas.List.{append-nil, length-map, length-take-le, map-append, take_all, take_more}
use Rattle.auction_text.specs.Report.{numbered_lines}

-- the line of one more element
pub numbered_lines-append : {X : Type 0} (line : ℕ → X → List ℕ) (n : ℕ) (xs : List X) (x : X)
    → numbered_lines line n (xs ++ x ∷ []) ≡ numbered_lines line n xs ++ line (n + length xs) x
numbered_lines-append line n [] x =
    let here : n + 0 ≡ n = omega arith in
    rw here (append-nil (line n x))
numbered_lines-append line n (y ∷ ys) x =
    let here : n + 1 + length ys ≡ n + suc (length ys) = omega arith in
    rw (append_assoc, ← here) (ap (λ (rest : List ℕ). line n y ++ rest) (numbered_lines-append line (n + 1) ys x))

-- what stands before a list, its first elements and the next one
pub numbered_more : {X : Type 0} (line : ℕ → X → List ℕ) (text : List ℕ) (xs : List X) (i : ℕ) (x : X) → i < length xs → x ≡ get_or xs i x
    → (text ++ numbered_lines line 0 (take i xs)) ++ line i x ≡ text ++ numbered_lines line 0 (take (i + 1) xs)
numbered_more line text xs i x within here =
    let size : 0 + length (take i xs) ≡ i = omega (arith, length-take-le i xs (omega (arith, within))) in
    let next : line (0 + length (take i xs)) x ≡ line i x = ap (λ (n : ℕ). line n x) size in
    rw (take_more xs i x within, sym here, numbered_lines-append line 0 (take i xs) x, next, append_assoc) refl

-- what stands before a list, each element of which stands for another, its first elements and the next one
pub numbered_more-map : {X Y : Type 0} (line : ℕ → Y → List ℕ) (h : X → Y) (text : List ℕ) (xs : List X) (i : ℕ) (x : X) → i < length xs → x ≡ get_or xs i x
    → (text ++ numbered_lines line 0 (map h (take i xs))) ++ line i (h x) ≡ text ++ numbered_lines line 0 (map h (take (i + 1) xs))
numbered_more-map line h text xs i x within here =
    let size : 0 + length (map h (take i xs)) ≡ i = omega (arith, length-map (take i xs) h, length-take-le i xs (omega (arith, within))) in
    let next : line (0 + length (map h (take i xs))) (h x) ≡ line i (h x) = ap (λ (n : ℕ). line n (h x)) size in
    rw (take_more xs i x within, sym here, map-append h (take i xs) (x ∷ []), numbered_lines-append line 0 (map h (take i xs)) (h x), next, append_assoc) refl

-- all of them
pub numbered_all : {X Y : Type 0} (line : ℕ → Y → List ℕ) (all : List X → List Y) (text now : List ℕ) (xs : List X) (i : ℕ) → length xs ≤ i
    → now ≡ text ++ numbered_lines line 0 (all (take i xs)) → now ≡ text ++ numbered_lines line 0 (all xs)
numbered_all line all text now xs i over told = told ∙ ap (λ (taken : List _). text ++ numbered_lines line 0 (all taken)) (take_all i xs over)
