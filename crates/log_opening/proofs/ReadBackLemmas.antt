-- The rows of a log are read back as they were printed.
use Rattle.std.proofs.Common.{arith, ◌%◌, ◌≡◌, ◌==◌, ◌≤◌, ◌<◌, ◌+◌, ◌^◌, ◌∷◌, ◌++◌, ◌∙◌, [], ℕ, List, Some, true, false, nat_le, get_or, refl, sym, ap, append_assoc, inl, inr}
use Rattle.std.proofs.lemmas.Bool.{and_from, cases_lt, eqb-true, false_from_ne_true, le-leb}
use Rattle.std.proofs.lemmas.Fmt.{decimal_digit, decimal_by_steps, first_decimal, decimal_is_IsNumeral}
use Rattle.std.{proofs.lemmas.List.Folds.{list_all-append}, specs.Char.{is_ascii_digit}}
use Rattle.std.specs.{Fmt.{decimal}, List.{list_all}, Str.Parse.{digits_value}}
use Rattle.auction_rows.specs.declared.limits.TheConstants.{MOST_QUANTITY}
use Rattle.auction_text.proofs.DigitLemmas.{number_is}
use Rattle.auction_text.proofs.PlainFieldLemmas.{digits_join, digits_plain, item_of_parts, parts_plain}
use Rattle.auction_text.specs.Fields.{is_numeral, item_id, number, quantity}
use Rattle.record_reading.specs.inner.PlainLines.{is_plain}
use Rattle.byte_texts.specs.Labels.{id_text}

pub digit_is : (d : ℕ) → d < 10 → is_ascii_digit (48 + d) ≡ true
digit_is d few = and_from _ _ (le-leb 48 (48 + d) (omega arith)) (le-leb (48 + d) 57 (omega (arith, few)))

one_digit : (n : ℕ) → n < 10 → list_all is_ascii_digit ((48 + n) ∷ []) ≡ true
one_digit n few = and_from _ _ (digit_is n few) refl

one_more : (n : ℕ) (ds : List ℕ) → 10 ≤ n → list_all is_ascii_digit ds ≡ true → list_all is_ascii_digit (ds ++ ((48 + n % 10) ∷ [])) ≡ true
one_more n ds many all = list_all-append is_ascii_digit ds ((48 + n % 10) ∷ []) ∙ and_from _ _ all (one_digit (n % 10) (omega arith))

pub digits : (n : ℕ) → n < 2 ^ 64 → list_all is_ascii_digit (decimal n) ≡ true
digits n fits = decimal_by_steps (λ m ds. list_all is_ascii_digit ds ≡ true) one_digit one_more n fits

value : (n : ℕ) → n < 2 ^ 64 → digits_value 10 (decimal n) ≡ n
value n fits = (decimal_is_IsNumeral n fits).1

-- digits whose first is more than a zero are a numeral
numeral_from : (ds : List ℕ) → 48 < get_or ds 0 0 → list_all is_ascii_digit ds ≡ true → is_numeral ds ≡ true
numeral_from [] more all = absurd (omega (arith, more))
numeral_from (d ∷ ds) more all =
    let other : (d == 48) ≡ false = false_from_ne_true (d == 48) (λ zero. absurd (omega (arith, more, eqb-true d 48 zero))) in
    rw other all

numeral : (n : ℕ) → n < 2 ^ 64 → is_numeral (decimal n) ≡ true
numeral n fits = elim (cases_lt 0 n) [
  | inl more ↦ numeral_from (decimal n) (first_decimal n more fits) (digits n fits)
  | inr none ↦
      let is : n ≡ 0 = omega (arith, none) in
      rw is (rw (decimal_digit 0 (omega arith)) refl)
]

pub number_of : (bits n : ℕ) → n < 2 ^ bits → n < 2 ^ 64 → number bits (decimal n) ≡ Some n
number_of bits n fits few = number_is bits (decimal n) n (numeral n few) (sym (value n few)) fits

pub quantity_of : (n : ℕ) → 1 ≤ n → n ≤ MOST_QUANTITY → quantity (decimal n) ≡ Some n
quantity_of n some few =
    let fits : n < 2 ^ 64 = omega (arith, few) in let low : nat_le 1 n ≡ true = le-leb 1 n some in
    let high : nat_le n MOST_QUANTITY ≡ true = le-leb n MOST_QUANTITY few in
    rw (numeral n fits, value n fits, low, high) refl

pub plain_number : (n : ℕ) → n < 2 ^ 64 → is_plain (decimal n) ≡ true
plain_number n fits = digits_plain (decimal n) (digits n fits)

pub item_of : (worker serial : ℕ) → worker < 2 ^ 32 → serial < 2 ^ 32 → item_id (id_text worker serial) ≡ Some (record { worker = worker; serial = serial })
item_of worker serial w s =
    ap item_id (append_assoc (decimal worker) (46 ∷ []) (decimal serial))
    ∙ item_of_parts (decimal worker) (decimal serial) worker serial (digits worker (omega (arith, w))) (number_of 32 worker w (omega (arith, w))) (number_of 32 serial s (omega (arith, s)))

pub plain_item : (worker serial : ℕ) → worker < 2 ^ 32 → serial < 2 ^ 32 → is_plain (id_text worker serial) ≡ true
plain_item worker serial w s = ap is_plain (append_assoc (decimal worker) (46 ∷ []) (decimal serial)) ∙ parts_plain (decimal worker) (decimal serial) (digits worker (omega (arith, w))) (digits serial (omega (arith, s)))

-- a minus and digits are a plain field
pub minus_plain : (xs : List ℕ) → list_all is_ascii_digit xs ≡ true → is_plain (45 ∷ xs) ≡ true
minus_plain xs all = digits_join xs all
