-- Digits that begin with no zero, and the number that they write.
use Rattle.std.proofs.Common.{◌≡◌, ◌≤◌, ◌^◌, ◌<◌, ◌==◌, ◌∙◌, ◌&&◌, ℕ, true, false, List, [], ◌∷◌, Option, Some, None, length, get_or, cond, IfSome, MatchOption, ap, sym, subst, arith}
use Rattle.std.proofs.lemmas.Bool.{and_from, and_parts, eqb-true, false_from_ne_true, false≢true, lt-ltb, ltb-true}
use Rattle.std.specs.{Char.{is_ascii_digit}, List.{list_all}, Prelude.{nat_lt}}
use Rattle.std.specs.Str.Parse.{digits_value}
use Rattle.record_reading.specs.Fields.{is_empty, is_numeral, number}

-- what is found of digits: the number that they write, or none where they are too many
abbrev IsRead : List ℕ → Option ℕ → Type 0
IsRead field found = MatchOption found (list_all is_ascii_digit field ≡ true → 2 ^ 64 ≤ digits_value 10 field) (λ n.
    (list_all is_ascii_digit field ≡ true) × (n ≡ digits_value 10 field))

numeral_digits : (field : List ℕ) → 1 ≤ length field → (get_or field 0 0 ≡ 48 → ⊥) → is_numeral field ≡ list_all is_ascii_digit field
numeral_digits [] some first = absurd (omega (arith, some))
numeral_digits (x ∷ xs) some first =
    ap (λ b. cond b (is_empty xs) (list_all is_ascii_digit (x ∷ xs))) (false_from_ne_true (x == 48) (λ zero. first (eqb-true x 48 zero)))

pub numeral_is : (field : List ℕ) (found : Option ℕ) → 1 ≤ length field → (get_or field 0 0 ≡ 48 → ⊥) → IfSome found (λ n. n < 2 ^ 64)
    → IsRead field found → found ≡ number 64 field
numeral_is field (Some n) some first fits read =
    let yes : (is_numeral field && nat_lt (digits_value 10 field) (2 ^ 64)) ≡ true =
    and_from (is_numeral field) _ (numeral_digits field some first ∙ read.0) (lt-ltb (digits_value 10 field) (2 ^ 64) (subst (λ v. v < 2 ^ 64) read.1 fits)) in
    ap Some read.1 ∙ ap (λ b. cond b (Some (digits_value 10 field)) None) (sym yes)
numeral_is field None some first fits many =
    let no : (is_numeral field && nat_lt (digits_value 10 field) (2 ^ 64)) ≡ false = false_from_ne_true _ (λ both.
    let parts = and_parts (is_numeral field) (nat_lt (digits_value 10 field) (2 ^ 64)) both in
    absurd (omega (arith, ltb-true (digits_value 10 field) (2 ^ 64) parts.1, many (sym (numeral_digits field some first) ∙ parts.0)))) in
    ap (λ b. cond b (Some (digits_value 10 field)) None) (sym no)

-- few digits are not too many
pub few_read : (field : List ℕ) (found : Option ℕ)
    → MatchOption found (list_all is_ascii_digit field ≡ false) (λ n. (list_all is_ascii_digit field ≡ true) × (n ≡ digits_value 10 field)) → IsRead field found
few_read field (Some n) read = read
few_read field None other = λ all. absurd (false≢true (sym other ∙ all))
