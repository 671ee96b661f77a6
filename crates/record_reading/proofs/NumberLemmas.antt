-- Numbers that are read a digit at a time.
use Rattle.std.proofs.Common.{arith, ◌≡◌, true, ◌≤◌, ◌<◌, ℕ, ◌+◌, ◌-◌, ◌*◌, ◌^◌, length, List, take, slice_index_or}
use Rattle.std.proofs.{Math.Nat.{pow-le-pow_right}, lemmas.Grind.{common_steps, pow_more}}
use Rattle.std.proofs.lemmas.{Int.Digits.{digits_value_more}, List.Folds.{list_all_more}}
use Rattle.std.proofs.lemmas.Str.{Parse.{digits_value-take-le}, digit_value_digit}
use Rattle.std.specs.{Char.{is_ascii_digit, digit_value}, List.{list_all}, Str.Parse.{digits_value}}

digit_is : (c : ℕ) → is_ascii_digit c ≡ true → digit_value c ≡ c - 48
digit_is c h = grind (arith, common_steps, digit_value_digit c)

pub digit_bound : (c : ℕ) → is_ascii_digit c ≡ true → c - 48 ≤ 9
digit_bound c h = grind (arith, common_steps)

-- the digits up to a place and one more are digits
pub digits_more : (ds : List ℕ) (i : ℕ) → i < length ds → list_all is_ascii_digit (take i ds) ≡ true → is_ascii_digit (slice_index_or ds i 0) ≡ true
    → list_all is_ascii_digit (take (i + 1) ds) ≡ true
digits_more ds i within before here = grind (arith, common_steps, list_all_more is_ascii_digit ds i 0 within)

-- and write this number, which all of them reach
pub next_digit : (ds : List ℕ) (i v : ℕ) → i < length ds → is_ascii_digit (slice_index_or ds i 0) ≡ true → v ≡ digits_value 10 (take i ds)
    → (digits_value 10 (take (i + 1) ds) ≡ v * 10 + (slice_index_or ds i 0 - 48)) × (v * 10 + (slice_index_or ds i 0 - 48) ≤ digits_value 10 ds)
next_digit ds i v within digit so_far =
    let more = digits_value_more 10 ds i within in
    let here = digit_is (slice_index_or ds i 0) digit in
    let most : digits_value 10 (take (i + 1) ds) ≤ digits_value 10 ds = digits_value-take-le 10 ds (i + 1) (omega arith) in
    let is : digits_value 10 (take (i + 1) ds) ≡ v * 10 + (slice_index_or ds i 0 - 48) = rw (so_far, ← here) more in
    (is, rw is at most)

-- a number of i digits and one more
pub next_bound : (v i d : ℕ) → v < 10 ^ i → d ≤ 9 → v * 10 + d < 10 ^ (i + 1)
next_bound v i d below digit = omega (arith, pow_more 10 i)

-- fewer than 19 digits leave room for one more
pub room : (v i d : ℕ) → v < 10 ^ i → i < 19 → d ≤ 9 → v * 10 + d < 10000000000000000000
room v i d below few digit =
    let short : i ≤ 18 = omega arith in let ten : 1 ≤ 10 = omega arith in
    let most : 10 ^ i ≤ 10 ^ 18 = pow-le-pow_right {n = 10} ten short in
    omega (arith, most)
