-- The byte order mark that a text may begin with.
use Rattle.std.proofs.Common.{arith, ◌≡◌, ◌≢◌, ◌==◌, ◌&&◌, ◌<◌, ◌∷◌, ◌++◌, [], ℕ, List, drop, get_or, length, refl, eq-eqb}
use Rattle.std.proofs.{Math.Bool.{and-false}, lemmas.Bool.{ne_eqb}}
use Rattle.csv.specs.Reading.{strip_bom}

-- a text whose first, second or third byte is not the mark's has none
pub no_mark_first : (xs more : List ℕ) → 0 < length xs → get_or xs 0 0 ≢ 0xEF → strip_bom (xs ++ more) ≡ xs ++ more
unfolding strip_bom
no_mark_first [] more some other = absurd (omega (arith, some))
no_mark_first (a ∷ []) (b ∷ c ∷ rest) some other = rw (ne_eqb a 0xEF other) refl
no_mark_first (a ∷ b ∷ []) (c ∷ rest) some other = rw (ne_eqb a 0xEF other) refl
no_mark_first (a ∷ b ∷ c ∷ rest) more some other = rw (ne_eqb a 0xEF other) refl
no_mark_first xs more some other = refl

pub no_mark_second : (xs more : List ℕ) → 1 < length xs → get_or xs 1 0 ≢ 0xBB → strip_bom (xs ++ more) ≡ xs ++ more
unfolding strip_bom
no_mark_second (a ∷ b ∷ []) [] some other = refl
no_mark_second (a ∷ b ∷ []) (c ∷ rest) some other = rw (ne_eqb b 0xBB other, and-false (a == 0xEF)) refl
no_mark_second (a ∷ b ∷ c ∷ rest) more some other = rw (ne_eqb b 0xBB other, and-false (a == 0xEF)) refl
no_mark_second xs more some other = absurd (omega (arith, some))

pub no_mark_third : (xs more : List ℕ) → 2 < length xs → get_or xs 2 0 ≢ 0xBF → strip_bom (xs ++ more) ≡ xs ++ more
unfolding strip_bom
no_mark_third (a ∷ b ∷ c ∷ rest) more some other = rw (ne_eqb c 0xBF other, and-false ((a == 0xEF) && (b == 0xBB))) refl
no_mark_third xs more some other = absurd (omega (arith, some))

pub is_mark : (xs more : List ℕ) → get_or xs 0 0 ≡ 0xEF → get_or xs 1 0 ≡ 0xBB → get_or xs 2 0 ≡ 0xBF → strip_bom (xs ++ more) ≡ drop 3 xs ++ more
unfolding strip_bom
is_mark [] more first second third = absurd (omega (arith, first))
is_mark (a ∷ []) more first second third = absurd (omega (arith, second))
is_mark (a ∷ b ∷ []) more first second third = absurd (omega (arith, third))
is_mark (a ∷ b ∷ c ∷ rest) more first second third = rw (eq-eqb a 0xEF first, eq-eqb b 0xBB second, eq-eqb c 0xBF third) refl

-- nor has one that is shorter than it
pub short_no_mark : (xs : List ℕ) → length xs < 3 → strip_bom xs ≡ xs
unfolding strip_bom
short_no_mark (a ∷ b ∷ c ∷ rest) few = absurd (omega (arith, few))
short_no_mark xs few = refl
