-- Numbers in decimal, and the space after one.
use Rattle.std.proofs.Common.{◌≡◌, ℕ, suc, ◌+◌, ◌<◌, ◌==◌, ◌&&◌, ◌⊎◌, ◌^◌, Bool, true, false, not, cond, List, [], ◌∷◌, ◌++◌, Some, None, length, take, drop, get_or, refl, subst, sym, ap, ◌∙◌, inl, inr, arith, rules}
use Rattle.std.proofs.Math.Seq.{take-append_seam}
use Rattle.std.proofs.lemmas.Bool.{eqb-true, eqb-false, false≢true, and_parts, and_from, ltb-true, lt-ltb, cases_eq}
use Rattle.std.proofs.lemmas.Fmt.{digits_decimal, digits_value-decimal, decimal-digits_value, decimal_nonempty, first_decimal, decimal_digit}
use Rattle.std.proofs.lemmas.List.{length-append, drop_more, take-append-drop}
use Rattle.std.proofs.lemmas.{List.Quantifiers.{position-Some}, Option.{same_Some}}
use Rattle.std.proofs.lemmas.Str.Parse.{IsNumeralModel, numerals_by_value}
use Rattle.std.specs.{Char.{is_ascii_digit}, List.{list_all, position, prefix_len}}
use Rattle.std.specs.{Prelude.{decimal, nat_lt}, Str.Parse.{digits_value}}
use Rattle.auction_text.specs.Fields.{is_numeral, is_empty, number}
use Rattle.history_check.specs.inner.Reading.{is_space}

abbrev AreDigits : List ℕ → Type 0
AreDigits ds = list_all is_ascii_digit ds ≡ true

own : IsNumeralModel AreDigits (digits_value 10)
own = numerals_by_value AreDigits (search rules)

-- ---- numerals

no_rest : (xs : List ℕ) → is_empty xs ≡ true → xs ≡ []
no_rest [] e = refl
no_rest (x ∷ xs) e = absurd (false≢true e)

-- digits, of which the first is no 0 unless it is alone
record Plain (f : List ℕ) : Type 0 where
  digits : AreDigits f
  some : 0 < length f
  no_zero : get_or f 0 0 ≡ 48 → length f ≡ 1

numeral_plain : (f : List ℕ) → is_numeral f ≡ true → Plain f
numeral_plain [] e = absurd (false≢true e)
numeral_plain (x ∷ xs) e = at (x == 48) refl e where
  at : (b : Bool) → (x == 48) ≡ b → cond b (is_empty xs) (list_all is_ascii_digit (x ∷ xs)) ≡ true → Plain (x ∷ xs)
  at true is_zero e =
      let alone : x ∷ xs ≡ 48 ∷ [] = (λ k. eqb-true x 48 is_zero k ∷ no_rest xs e k) in
      record { digits = ap (list_all is_ascii_digit) alone; some = omega arith; no_zero = λ _. ap length alone }
  at false other e = record { digits = e; some = omega arith; no_zero = λ is. absurd (eqb-false x 48 other is) }

plain_numeral : (f : List ℕ) → Plain f → is_numeral f ≡ true
plain_numeral [] p = absurd (omega (arith, p.some))
plain_numeral (x ∷ xs) p = at (x == 48) refl where
  empty : (ys : List ℕ) → suc (length ys) ≡ 1 → is_empty ys ≡ true
  empty [] e = refl
  empty (y ∷ ys) e = absurd (omega (arith, e))

  at : (b : Bool) → (x == 48) ≡ b → cond (x == 48) (is_empty xs) (list_all is_ascii_digit (x ∷ xs)) ≡ true
  at true is_zero = ap (λ b. cond b (is_empty xs) (list_all is_ascii_digit (x ∷ xs))) is_zero ∙ empty xs (p.no_zero (eqb-true x 48 is_zero))
  at false other = ap (λ b. cond b (is_empty xs) (list_all is_ascii_digit (x ∷ xs))) other ∙ p.digits

decimal_plain : (n : ℕ) → n < 2 ^ 64 → Plain (decimal n)
decimal_plain n fits = record {
  digits = digits_decimal own n fits;
  some = decimal_nonempty n fits;
  no_zero = at (cases_eq n 0);
} where
  at : (n ≡ 0) ⊎ (n ≡ 0 → ⊥) → get_or (decimal n) 0 0 ≡ 48 → length (decimal n) ≡ 1
  at (inl none) first = ap (λ n. length (decimal n)) none ∙ ap length (decimal_digit 0 (omega arith))
  at (inr other) first = absurd (omega (arith, first, first_decimal n (omega (arith, other)) fits))

-- ---- numbers

pub number_text : (f : List ℕ) (n : ℕ) → number 64 f ≡ Some n → f ≡ decimal n
number_text f n e = at (is_numeral f && nat_lt (digits_value 10 f) (2 ^ 64)) refl e where
  at : (b : Bool) → (is_numeral f && nat_lt (digits_value 10 f) (2 ^ 64)) ≡ b → cond b (Some (digits_value 10 f)) None ≡ Some n → f ≡ decimal n
  at true both e =
      let parts = and_parts (is_numeral f) (nat_lt (digits_value 10 f) (2 ^ 64)) both in
      let plain = numeral_plain f parts.0 in let value : digits_value 10 f ≡ n = cc e in
      sym (decimal-digits_value own f plain.digits plain.some plain.no_zero (ltb-true (digits_value 10 f) (2 ^ 64) parts.1)) ∙ ap decimal value
  at false _ e = absurd (cc e)

pub text_number : (n : ℕ) → n < 2 ^ 64 → number 64 (decimal n) ≡ Some n
text_number n fits =
    let value = digits_value-decimal own n fits in
    let yes : (is_numeral (decimal n) && nat_lt (digits_value 10 (decimal n)) (2 ^ 64)) ≡ true =
    and_from (is_numeral (decimal n)) (nat_lt (digits_value 10 (decimal n)) (2 ^ 64)) (plain_numeral (decimal n) (decimal_plain n fits))
    (lt-ltb (digits_value 10 (decimal n)) (2 ^ 64) (subst (λ v. v < 2 ^ 64) (sym value) fits)) in
    ap (λ b. cond b (Some (digits_value 10 (decimal n))) None) yes ∙ ap Some value

-- ---- the first space

digit_no_space : (x : ℕ) → is_ascii_digit x ≡ true → is_space x ≡ false
digit_no_space x digit = at (x == 32) refl where
  at : (b : Bool) → (x == 32) ≡ b → (x == 32) ≡ false
  at false e = e
  at true e = absurd (false≢true (sym (ap is_ascii_digit (eqb-true x 32 e)) ∙ digit))

space_len : (ds rest : List ℕ) → AreDigits ds → prefix_len (λ x. not (is_space x)) (ds ++ 32 ∷ rest) ≡ length ds
space_len [] rest digits = refl
space_len (d ∷ ds) rest digits =
    let parts = and_parts (is_ascii_digit d) (list_all is_ascii_digit ds) digits in
    (λ k. cond (not (digit_no_space d parts.0 k)) (1 + space_len ds rest parts.1 k) 0) ∙ omega arith

space_after : (ds rest : List ℕ) → AreDigits ds → position is_space (ds ++ 32 ∷ rest) ≡ Some (length ds)
space_after ds rest digits =
    let there = space_len ds rest digits in
    let within : prefix_len (λ x. not (is_space x)) (ds ++ 32 ∷ rest) < length (ds ++ 32 ∷ rest) = omega (arith, there, length-append ds (32 ∷ rest)) in
    ap (λ b. cond b (Some (prefix_len (λ x. not (is_space x)) (ds ++ 32 ∷ rest))) None) (lt-ltb (prefix_len (λ x. not (is_space x)) (ds ++ 32 ∷ rest)) (length (ds ++ 32 ∷ rest)) within)
    ∙ ap Some there

pub space_there : (n : ℕ) (rest : List ℕ) → n < 2 ^ 64 → position is_space (decimal n ++ 32 ∷ rest) ≡ Some (length (decimal n))
space_there n rest fits = space_after (decimal n) rest (digits_decimal own n fits)

pub space_is : (bytes : List ℕ) (n : ℕ) (rest : List ℕ) (space : ℕ) → n < 2 ^ 64 → bytes ≡ decimal n ++ 32 ∷ rest → Some space ≡ position is_space bytes → space ≡ length (decimal n)
space_is bytes n rest space fits is e = same_Some space (length (decimal n)) (e ∙ ap (position is_space) is ∙ space_there n rest fits)

one_more : (n : ℕ) → n + 1 ≡ suc n
one_more n = omega arith

drop_past : (xs : List ℕ) (y : ℕ) (ys : List ℕ) → drop (suc (length xs)) (xs ++ y ∷ ys) ≡ ys
drop_past [] y ys = refl
drop_past (x ∷ xs) y ys = drop_past xs y ys

drop_front : (xs : List ℕ) (y : ℕ) (ys : List ℕ) → drop (length xs + 1) (xs ++ y ∷ ys) ≡ ys
drop_front xs y ys = ap (λ n. drop n (xs ++ y ∷ ys)) (one_more (length xs)) ∙ drop_past xs y ys

pub front_is : (bytes : List ℕ) (n : ℕ) (rest : List ℕ) (space : ℕ) → bytes ≡ decimal n ++ 32 ∷ rest → space ≡ length (decimal n) → take space bytes ≡ decimal n
front_is bytes n rest space is here = (λ k. take (here k) (is k)) ∙ take-append_seam (decimal n) (32 ∷ rest)

pub rest_is : (bytes : List ℕ) (n : ℕ) (rest : List ℕ) (space : ℕ) → bytes ≡ decimal n ++ 32 ∷ rest → space ≡ length (decimal n) → drop (space + 1) bytes ≡ rest
rest_is bytes n rest space is here = (λ k. drop (here k + 1) (is k)) ∙ drop_front (decimal n) 32 rest

cut : (bytes : List ℕ) (i : ℕ) → i < length bytes → take i bytes ++ get_or bytes i 0 ∷ drop (i + 1) bytes ≡ bytes
cut bytes i less = ap (λ xs. take i bytes ++ xs) (sym (drop_more bytes i 0 less)) ∙ take-append-drop i bytes

pub split_here : (bytes : List ℕ) (space : ℕ) → Some space ≡ position is_space bytes → bytes ≡ take space bytes ++ 32 ∷ drop (space + 1) bytes
split_here bytes space e =
    let found = position-Some is_space bytes space 0 (sym e) in
    sym (cut bytes space found.0) ∙ ap (λ x. take space bytes ++ x ∷ drop (space + 1) bytes) (eqb-true (get_or bytes space 0) 32 found.1)

pub no_space : (bytes : List ℕ) (n : ℕ) (rest : List ℕ) → n < 2 ^ 64 → bytes ≡ decimal n ++ 32 ∷ rest → None ≡ position is_space bytes → ⊥
no_space bytes n rest fits is e = (let none : None ≡ Some (length (decimal n)) = e ∙ ap (position is_space) is ∙ space_there n rest fits in absurd (cc none))

pub number_is : (n m : ℕ) → n < 2 ^ 64 → Some m ≡ number 64 (decimal n) → m ≡ n
number_is n m fits e = same_Some m n (e ∙ text_number n fits)

pub no_number : (n : ℕ) → n < 2 ^ 64 → None ≡ number 64 (decimal n) → ⊥
no_number n fits e = (let none : None ≡ Some n = e ∙ text_number n fits in absurd (cc none))

-- a number and a space stand before one text only
pub numbers_apart : (m n : ℕ) (r s : List ℕ) → m < 2 ^ 64 → n < 2 ^ 64 → decimal m ++ 32 ∷ r ≡ decimal n ++ 32 ∷ s → (m ≡ n) × (r ≡ s)
numbers_apart m n r s fits other same =
    let long : length (decimal m) ≡ length (decimal n) = space_is (decimal m ++ 32 ∷ r) n s (length (decimal m)) other same (sym (space_there m r fits)) in
    let texts : decimal m ≡ decimal n = sym (take-append_seam (decimal m) (32 ∷ r)) ∙ front_is (decimal m ++ 32 ∷ r) n s (length (decimal m)) same long in (
      sym (digits_value-decimal own m fits) ∙ ap (digits_value 10) texts ∙ digits_value-decimal own n other,
      sym (drop_front (decimal m) 32 r) ∙ rest_is (decimal m ++ 32 ∷ r) n s (length (decimal m)) same long,
    )
