-- Digits that are read in place.
use Rattle.std.proofs.Common.{arith, [], cond, nat_lt, ◌&&◌, ◌⊎◌, None, add-one, ◌≡◌, ◌==◌, ◌≤◌, ◌<◌, ◌+◌, ◌-◌, ◌*◌, ◌%◌, ◌^◌, ◌∷◌, ◌++◌, ◌∙◌, ℕ, List, Some, Bool, true, false, drop, get_or, length, take, refl, sym, ap, subst, inl, inr, get_or-drop}
use Rattle.std.proofs.Math.{Nat.{pow-le-pow_right}, Seq.{drop-cons}}
use Rattle.std.proofs.lemmas.Bool.{cases_lt, cases_Bool, and_parts, and_from, eqb-true, false_from_ne_true, lt-ltb}
use Rattle.std.proofs.lemmas.{Grind.{common_steps}, List.{take-append-drop, drop-drop}}
use Rattle.std.specs.{Char.{is_ascii_digit}, List.{list_all}, Str.Parse.{digits_value}}
use Rattle.record_reading.proofs.NumberLemmas.{digit_bound, digits_more, next_bound, next_digit, room}
use Rattle.record_reading.specs.{Fields.{is_numeral, number}, Lines.{EndsLine}}
use Rattle.record_reading.specs.inner.PlainLines.{IsFieldTo, IsNumberTo}

-- the bytes from a place up to another
abbrev pub span : List ℕ → ℕ → ℕ → List ℕ
span text from at = take (at - from) (drop from text)

-- the bytes up to a place are digits, and a value is the number that they write, where they are few
pub record ReadTo (text : List ℕ) (from at value : ℕ) : Type 0 where
  pub digits : list_all is_ascii_digit (span text from at) ≡ true
  pub sure : at - from ≤ 19 → (value ≡ digits_value 10 (span text from at)) × (value < 10 ^ (at - from))

-- a byte that is no line feed is not the last
pub more_after : (text : List ℕ) (at : ℕ) → EndsLine text → at < length text → (get_or text at 0 ≡ 10 → ⊥) → at + 1 < length text
more_after text at ends within other = elim (cases_lt (at + 1) (length text)) [
  | inl more ↦ more
  | inr last ↦
      let is : at ≡ length text - 1 = omega arith in
      absurd (other (rw is ends.feed))
]

pub read_none : (text : List ℕ) (from : ℕ) → ReadTo text from from 0
read_none text from = let none : from - from ≡ 0 = omega arith in record { digits = rw none refl; sure = λ few. rw none (refl, omega arith) }

-- one digit more
pub read_more : (text : List ℕ) (from at value : ℕ) → from ≤ at → at < length text → is_ascii_digit (get_or text at 0) ≡ true → ReadTo text from at value
    → ReadTo text from (at + 1) (((value * 10) % 2 ^ 64 + (get_or text at 0 - 48)) % 2 ^ 64)
read_more text from at value reaches within digit so_far =
    let i = at - from in let ds = drop from text in
    let inside : i < length ds = grind (arith, common_steps) in
    let here : get_or ds i 0 ≡ get_or text at 0 = get_or-drop from text i 0 ∙ (let place : from + i ≡ at = omega arith in rw place refl) in
    let one : at + 1 - from ≡ i + 1 = omega arith in
    let digit_too : is_ascii_digit (get_or ds i 0) ≡ true = rw here digit in record {
      digits = rw one (digits_more ds i inside so_far.digits digit_too);
      sure = λ few.
          let v = so_far.sure (omega arith) in
          let next = next_digit ds i value inside digit_too v.0 in
          let bound = digit_bound (get_or text at 0) digit in
          let fits = room value i (get_or text at 0 - 48) v.1 (omega arith) bound in
          let below = next_bound value i (get_or text at 0 - 48) v.1 bound in
          let same : ((value * 10) % 2 ^ 64 + (get_or text at 0 - 48)) % 2 ^ 64 ≡ value * 10 + (get_or text at 0 - 48) = omega (arith, fits) in
          rw (one, same) (sym (rw here at next.0), below);
    }

-- the first digit
pub read_first : (text : List ℕ) (from : ℕ) → from < length text → is_ascii_digit (get_or text from 0) ≡ true → ReadTo text from (from + 1) (get_or text from 0 - 48)
read_first text from within digit =
    let bound = digit_bound (get_or text from 0) digit in
    let same : ((0 * 10) % 2 ^ 64 + (get_or text from 0 - 48)) % 2 ^ 64 ≡ get_or text from 0 - 48 = omega (arith, bound) in
    rw same at (read_more text from from 0 (omega arith) within digit (read_none text from))

-- digits of which the first is no zero, or the only one, are a numeral
digits_numeral : (field : List ℕ) → list_all is_ascii_digit field ≡ true → 1 ≤ length field → (length field ≡ 1) ⊎ (get_or field 0 0 ≡ 48 → ⊥) → is_numeral field ≡ true
digits_numeral [] all some first = absurd (omega (arith, some))
digits_numeral (x ∷ []) all some first = elim (cases_Bool (x == 48)) [ inl zero ↦ rw zero refl | inr other ↦ rw other all ]
digits_numeral (x ∷ y ∷ ys) all some (inl one) = absurd (omega (arith, one))
digits_numeral (x ∷ y ∷ ys) all some (inr first) =
    let other : (x == 48) ≡ false = false_from_ne_true (x == 48) (λ zero. first (eqb-true x 48 zero)) in
    rw other all

-- the number that a numeral writes
pub number_is : (bits : ℕ) (field : List ℕ) (n : ℕ) → is_numeral field ≡ true → n ≡ digits_value 10 field → n < 2 ^ bits → number bits field ≡ Some n
number_is bits field n numeral is fits =
    let yes : (is_numeral field && nat_lt (digits_value 10 field) (2 ^ bits)) ≡ true =
    and_from (is_numeral field) _ numeral (lt-ltb (digits_value 10 field) (2 ^ bits) (subst (λ v. v < 2 ^ bits) is fits)) in
    ap (λ b. cond b (Some (digits_value 10 field)) None) yes ∙ ap Some (sym is)

-- from a place on a text has what is up to another, the byte there, and what is after it
pub split_at : (text : List ℕ) (from at : ℕ) → from ≤ at → at < length text → IsFieldTo text from (get_or text at 0) (at + 1) (span text from at)
split_at text from at reaches within =
    let i = at - from in let place : from + i ≡ at = omega arith in
    let rest : drop i (drop from text) ≡ get_or text at 0 ∷ drop (at + 1) text = drop-drop i from text ∙ (rw (place, add-one) (drop-cons text at 0 within)) in
    let last : at + 1 - 1 ≡ at = omega arith in record {
      text_is = sym (take-append-drop i (drop from text)) ∙ ap (λ (r : List ℕ). span text from at ++ r) rest;
      after = omega arith;
      within = omega arith;
      stop_is = rw last refl;
    }

some_if : (b : Bool) (x n : ℕ) → cond b (Some x) None ≡ Some n → (b ≡ true) × (n ≡ x)
some_if true x n e = (refl, cc)
some_if false x n e = absurd (cc e)

-- a number of 64 bits that fits in fewer
pub number_fits : (bits : ℕ) (field : List ℕ) (n : ℕ) → number 64 field ≡ Some n → n < 2 ^ bits → number bits field ≡ Some n
number_fits bits field n is fits =
    let p = some_if (is_numeral field && nat_lt (digits_value 10 field) (2 ^ 64)) (digits_value 10 field) n is in
    number_is bits field n (and_parts (is_numeral field) _ p.0).0 p.1 fits

-- after a stop that is no line feed there is more
pub more_behind : (text : List ℕ) (from stop next : ℕ) (field : List ℕ) → EndsLine text → IsFieldTo text from stop next field → (stop ≡ 10 → ⊥) → next < length text
more_behind text from stop next field ends there other = elim (cases_lt next (length text)) [
  | inl more ↦ more
  | inr last ↦
      let is : next ≡ length text = omega (arith, there.within) in
      absurd (other (sym there.stop_is ∙ (rw is ends.feed)))
]

-- the number that was read
module _ (text : List ℕ) (from at value stop : ℕ) (reaches : from ≤ at) (within : at < length text) (so_far : ReadTo text from at value)
    (few : at - from ≤ 19) (is_stop : get_or text at 0 ≡ stop) where
  number_with : 1 ≤ at - from → (at - from ≡ 1) ⊎ (get_or text from 0 ≡ 48 → ⊥) → IsNumberTo text from stop 64 value (at + 1)
  number_with some first =
      let i = at - from in let field = span text from at in let v = so_far.sure few in
      let long : length field ≡ i = grind (arith, common_steps) in let ten : 1 ≤ 10 = omega arith in
      let most : 10 ^ i ≤ 10 ^ 19 = pow-le-pow_right {n = 10} ten few in
      let fits : value < 2 ^ 64 = omega (arith, v.1, most) in
      let begins : get_or field 0 0 ≡ get_or text from 0 = grind (arith, common_steps) in
      let one : (length field ≡ 1) ⊎ (get_or field 0 0 ≡ 48 → ⊥) = elim first [ inl one ↦ inl (long ∙ one) | inr other ↦ inr (λ zero. other (sym begins ∙ zero)) ] in
      record {
        field = field;
        there = rw is_stop at (split_at text from at reaches within);
        digits = so_far.digits;
        is = number_is 64 field value (digits_numeral field so_far.digits (omega arith) one) v.0 fits;
      }

  pub number_of_one : at - from ≡ 1 → IsNumberTo text from stop 64 value (at + 1)
  number_of_one one = number_with (omega arith) (inl one)

  pub number_of_more : 1 ≤ at - from → (get_or text from 0 ≡ 48 → ⊥) → IsNumberTo text from stop 64 value (at + 1)
  number_of_more some first = number_with some (inr first)

-- a byte whose value is at most 9 is a digit
pub digit_of : (c value : ℕ) → (48 ≤ c → value ≡ c - 48) → (c < 48 → 9 < value) → value ≤ 9 → (is_ascii_digit c ≡ true) × (48 ≤ c) × (value ≡ c - 48)
digit_of c value from_zero below_zero small = elim (cases_lt c 48) [
  | inl below ↦ absurd (omega (arith, below_zero below))
  | inr low ↦
      let is : value ≡ c - 48 = from_zero low in let high : c ≤ 57 = omega arith in
      (grind (arith, common_steps), low, is)
]
