-- How many elements pass a test.
use Rattle.std.proofs.Common.{◌≡◌, ℕ, ◌+◌, ◌&&◌, Bool, true, false, cond, List, [], ◌∷◌, ◌++◌, map, count_by, refl, ap, ◌∙◌, arith}
use Rattle.std.{proofs.lemmas.List.Recursion.{is_count_by}, specs.List.{filter, AllByRecursion}}

-- how many elements pass a test, by recursion
abbrev pub how_many : {X : Type 0} → (X → Bool) → List X → ℕ
how_many p [] = 0
how_many p (x ∷ xs) = cond (p x) 1 0 + how_many p xs

pub how_many-is : {X : Type 0} (p : X → Bool) (xs : List X) → how_many p xs ≡ count_by p xs
how_many-is p xs = is_count_by (how_many p) p refl (λ y ys. one_more (p y) (how_many p ys)) xs where
  one_more : (b : Bool) (n : ℕ) → cond b 1 0 + n ≡ cond b (1 + n) n
  one_more true n = refl
  one_more false n = omega arith

pub count-append : {X : Type 0} (p : X → Bool) (xs ys : List X) → how_many p (xs ++ ys) ≡ how_many p xs + how_many p ys
count-append p [] ys = omega arith
count-append p (x ∷ xs) ys = omega (arith, count-append p xs ys)

pub count-filter : {X : Type 0} (p q : X → Bool) (xs : List X) → how_many q (filter p xs) ≡ how_many (λ x. p x && q x) xs
count-filter p q [] = refl
count-filter p q (x ∷ xs) = go (p x) (count-filter p q xs) where
  go : (b : Bool) → how_many q (filter p xs) ≡ how_many (λ y. p y && q y) xs →
      how_many q (cond b (x ∷ filter p xs) (filter p xs)) ≡ cond (b && q x) 1 0 + how_many (λ y. p y && q y) xs
  go true again = ap (λ n. cond (q x) 1 0 + n) again
  go false again = again ∙ omega arith

pub count-map : {X Y : Type 0} (f : X → Y) (p : Y → Bool) (xs : List X) → how_many p (map f xs) ≡ how_many (λ x. p (f x)) xs
count-map f p [] = refl
count-map f p (x ∷ xs) = ap (λ n. cond (p (f x)) 1 0 + n) (count-map f p xs)

-- counts whose tests add up
pub count-sum : {X : Type 0} (p q r : X → Bool) → ((x : X) → cond (p x) 1 0 + cond (q x) 1 0 ≡ cond (r x) 1 0) → (xs : List X) → how_many p xs + how_many q xs ≡ how_many r xs
count-sum p q r adds [] = refl
count-sum p q r adds (x ∷ xs) =
    let again : how_many p xs + how_many q xs ≡ how_many r xs = count-sum p q r adds xs in
    let here : cond (p x) 1 0 + cond (q x) 1 0 ≡ cond (r x) 1 0 = adds x in omega arith

pub count-same : {X : Type 0} (p q : X → Bool) (xs : List X) → AllByRecursion (λ x. p x ≡ q x) xs → how_many p xs ≡ how_many q xs
count-same p q [] h = refl
count-same p q (x ∷ xs) h = ap (λ b. cond b 1 0 + how_many p xs) h.0 ∙ ap (λ n. cond (q x) 1 0 + n) (count-same p q xs h.1)
