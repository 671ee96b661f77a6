-- Fields that are read in place are the fields that `csv` reads.
use Rattle.std.proofs.Common.{arith, ◌≡◌, ◌==◌, ◌&&◌, ◌≤◌, ◌<◌, ◌+◌, ◌-◌, ◌∷◌, ◌++◌, ◌∙◌, [], ℕ, List, Some, Bool, true, false, not, nat_lt, add-one, drop, get_or, get_or-drop, length, take, refl, sym, ap, ap₂, append_assoc, drop-cons, inl, inr}
use Rattle.std.proofs.Math.Seq.{drop-append-add}
use Rattle.std.proofs.lemmas.Bool.{and_from, and_parts, eqb-true, false_from_ne_true, false≢true, lt-ltb, ne_eqb}
use Rattle.std.proofs.lemmas.{Grind.{common_steps}, List.Folds.{list_all-append, list_all_more}}
use Rattle.std.specs.{Char.{is_ascii_digit}, List.{list_all, position, position_or_len}}
use Rattle.csv.specs.Reading.{strip_bom}
use Rattle.record_reading.proofs.DigitLemmas.{span}
use Rattle.record_reading.proofs.LineLemmas.{last_and_end, next_and_comma, no_bom}
use Rattle.record_reading.specs.Fields.{id_of_parts, is_point, item_id, item_id_at, number}
use Rattle.record_reading.specs.Lines.{ReadsFirst}
use Rattle.record_reading.specs.inner.PlainLines.{HasRead, IsFieldTo, IsItemTo, IsLastField, IsLastItem, IsLastNumber, IsNumberTo, is_plain, is_quoted, joins}

-- a digit is no byte of another sort
digit_not : (c d : ℕ) → is_ascii_digit d ≡ false → is_ascii_digit c ≡ true → (c == d) ≡ false
digit_not c d other digit = false_from_ne_true (c == d) (λ same. false≢true (sym other ∙ ap is_ascii_digit (sym (eqb-true c d same)) ∙ digit))

digit_joins : (c : ℕ) → is_ascii_digit c ≡ true → joins c ≡ true
digit_joins c digit = rw (digit_not c 44 refl digit, digit_not c 13 refl digit, digit_not c 10 refl digit) refl

pub digits_join : (xs : List ℕ) → list_all is_ascii_digit xs ≡ true → list_all joins xs ≡ true
digits_join [] all = refl
digits_join (x ∷ xs) all =
    let p = and_parts (is_ascii_digit x) (list_all is_ascii_digit xs) all in
    and_from (joins x) (list_all joins xs) (digit_joins x p.0) (digits_join xs p.1)

-- digits, and whatever joins after them, have no quote in front
digits_no_quote : (xs : List ℕ) (c : ℕ) (ys : List ℕ) → list_all is_ascii_digit xs ≡ true → (c == 34) ≡ false → is_quoted (xs ++ (c ∷ ys)) ≡ false
digits_no_quote [] c ys all other = other
digits_no_quote (x ∷ xs) c ys all other = digit_not x 34 refl (and_parts (is_ascii_digit x) (list_all is_ascii_digit xs) all).0

-- nor a byte order mark
pub digits_no_bom : (xs : List ℕ) (c : ℕ) (ys : List ℕ) → list_all is_ascii_digit xs ≡ true → (c == 0xEF) ≡ false → strip_bom (xs ++ (c ∷ ys)) ≡ xs ++ (c ∷ ys)
digits_no_bom [] c ys all other = no_bom c ys other
digits_no_bom (x ∷ xs) c ys all other = no_bom x (xs ++ (c ∷ ys)) (digit_not x 0xEF refl (and_parts (is_ascii_digit x) (list_all is_ascii_digit xs) all).0)

-- digits are a plain field
pub digits_plain : (xs : List ℕ) → list_all is_ascii_digit xs ≡ true → is_plain xs ≡ true
digits_plain [] all = refl
digits_plain (x ∷ xs) all =
    let p = and_parts (is_ascii_digit x) (list_all is_ascii_digit xs) all in
    rw (digit_not x 34 refl p.0) (digits_join (x ∷ xs) all)

-- and so are digits, a point and digits
pub parts_plain : (xs ys : List ℕ) → list_all is_ascii_digit xs ≡ true → list_all is_ascii_digit ys ≡ true → is_plain (xs ++ (46 ∷ ys)) ≡ true
parts_plain xs ys first second =
    let quote = digits_no_quote xs 46 ys first refl in
    let all : list_all joins (xs ++ (46 ∷ ys)) ≡ true = list_all-append joins xs (46 ∷ ys) ∙ and_from (list_all joins xs) (list_all joins ys) (digits_join xs first) (digits_join ys second) in
    rw (quote, all) refl

-- the point after digits is the first
point_after : (xs ys : List ℕ) → list_all is_ascii_digit xs ≡ true → position_or_len is_point (xs ++ (46 ∷ ys)) ≡ length xs
point_after [] ys all = refl
point_after (x ∷ xs) ys all =
    let p = and_parts (is_ascii_digit x) (list_all is_ascii_digit xs) all in
    let more = point_after xs ys p.1 in
    rw (digit_not x 46 refl p.0) (rw more (omega arith))

pub item_of_parts : (xs ys : List ℕ) (worker serial : ℕ) → list_all is_ascii_digit xs ≡ true → number 32 xs ≡ Some worker → number 32 ys ≡ Some serial
    → item_id (xs ++ (46 ∷ ys)) ≡ Some (record { worker = worker; serial = serial })
item_of_parts xs ys worker serial all first second =
    let field = xs ++ (46 ∷ ys) in let point = point_after xs ys all in
    let inside : nat_lt (length xs) (length field) ≡ true = lt-ltb (length xs) (length field) (grind (arith, common_steps)) in
    let place : position is_point field ≡ Some (length xs) = rw point (rw inside refl) in
    let before : take (length xs) field ≡ xs = grind (arith, common_steps) in
    let after : drop (length xs + 1) field ≡ ys = drop-append-add xs (46 ∷ ys) 1 in
    ap (item_id_at field) place ∙ ap₂ id_of_parts (ap (number 32) before ∙ first) (ap (number 32) after ∙ second)

-- a byte of a field that ends at a comma, at the end of a line or at a quote
abbrev pub inside : ℕ → Bool
inside byte = not (byte == 34) && joins byte

inside_byte : (b : ℕ) → (b ≡ 44 → ⊥) → (b ≡ 10 → ⊥) → (b ≡ 13 → ⊥) → (b ≡ 34 → ⊥) → inside b ≡ true
inside_byte b comma feed back quote = rw (ne_eqb b 34 quote, ne_eqb b 44 comma, ne_eqb b 13 back, ne_eqb b 10 feed) refl

-- one byte more of a sort
pub span_more : (is : ℕ → Bool) (text : List ℕ) (from at : ℕ) → from ≤ at → at < length text → is (get_or text at 0) ≡ true
    → list_all is (span text from at) ≡ true → list_all is (span text from (at + 1)) ≡ true
span_more is text from at reaches within byte so_far =
    let i = at - from in let ds = drop from text in
    let short : i < length ds = grind (arith, common_steps) in
    let place : from + i ≡ at = omega arith in
    let here : get_or ds i 0 ≡ get_or text at 0 = get_or-drop from text i 0 ∙ (rw place refl) in
    let one : at + 1 - from ≡ i + 1 = omega arith in
    let next : is (get_or ds i 0) ≡ true = rw here byte in
    rw one (list_all_more is ds i 0 short ∙ and_from (list_all is (span text from at)) (is (get_or ds i 0)) so_far next)

pub inside_more : (text : List ℕ) (from at : ℕ) → from ≤ at → at < length text → (get_or text at 0 ≡ 44 → ⊥) → (get_or text at 0 ≡ 10 → ⊥) → (get_or text at 0 ≡ 13 → ⊥) → (get_or text at 0 ≡ 34 → ⊥)
    → list_all inside (span text from at) ≡ true → list_all inside (span text from (at + 1)) ≡ true
inside_more text from at reaches within comma feed back quote so_far =
    span_more inside text from at reaches within (inside_byte (get_or text at 0) comma feed back quote) so_far

all_join : (xs : List ℕ) → list_all inside xs ≡ true → list_all joins xs ≡ true
all_join [] all = refl
all_join (x ∷ xs) all =
    let p = and_parts (inside x) (list_all inside xs) all in
    and_from (joins x) (list_all joins xs) (and_parts (not (x == 34)) (joins x) p.0).1 (all_join xs p.1)

-- such bytes are a plain field
pub inside_plain : (xs : List ℕ) → list_all inside xs ≡ true → is_plain xs ≡ true
inside_plain [] all = refl
inside_plain (x ∷ xs) all =
    let p = and_parts (inside x) (list_all inside xs) all in
    and_from (not (x == 34)) (list_all joins (x ∷ xs)) (and_parts (not (x == 34)) (joins x) p.0).0 (all_join (x ∷ xs) all)

-- a number, a point and a number name an item
pub item_of : (text : List ℕ) (from stop worker at serial next : ℕ) → IsNumberTo text from 46 32 worker at → IsNumberTo text at stop 32 serial next
    → IsItemTo text from stop (record { worker = worker; serial = serial }) next
item_of text from stop worker at serial next first second =
    let xs = first.field in
    let ys = second.field in record {
      field = xs ++ (46 ∷ ys);
      there = record {
        text_is = first.there.text_is ∙ ap (λ (r : List ℕ). xs ++ (46 ∷ r)) second.there.text_is ∙ sym (append_assoc xs (46 ∷ ys) (stop ∷ drop next text));
        after = omega (arith, first.there.after, second.there.after);
        within = second.there.within;
        stop_is = second.there.stop_is;
      };
      plain = parts_plain xs ys first.digits second.digits;
      is = item_of_parts xs ys worker serial first.digits first.is second.is;
    }

-- the item that a line's last field names, by its two numbers
pub last_item_of : (text : List ℕ) (from worker at serial next : ℕ) → IsNumberTo text from 46 32 worker at → IsLastNumber text at 32 serial next
    → IsLastItem text from (record { worker = worker; serial = serial }) next
last_item_of text from worker at serial next first second =
    let xs = first.field in let ys = second.field in
    let ends = second.there.ends in record {
      field = xs ++ (46 ∷ ys);
      there = record {
        ends = ends;
        is_end = second.there.is_end;
        text_is = first.there.text_is ∙ ap (λ (r : List ℕ). xs ++ (46 ∷ r)) second.there.text_is ∙ sym (append_assoc xs (46 ∷ ys) (ends ++ drop next text));
        after = omega (arith, first.there.after, second.there.after);
        within = second.there.within;
      };
      plain = parts_plain xs ys first.digits second.digits;
      is = item_of_parts xs ys worker serial first.digits first.is second.is;
    }

-- a field before a line feed, or before a carriage return and a line feed, is a line's last
pub last_to_feed : (text : List ℕ) (from next : ℕ) (field : List ℕ) → IsFieldTo text from 10 next field → IsLastField text from next field
last_to_feed text from next field there = record { ends = 10 ∷ []; is_end = inl refl; text_is = there.text_is; after = there.after; within = there.within }

pub last_to_return : (text : List ℕ) (from at : ℕ) (field : List ℕ) → IsFieldTo text from 13 at field → at < length text → get_or text at 0 ≡ 10 → IsLastField text from (at + 1) field
last_to_return text from at field there inside feed =
    let rest : drop at text ≡ 10 ∷ drop (at + 1) text = rw (add-one, ← feed) (drop-cons text at 0 inside) in
    record {
      ends = 13 ∷ 10 ∷ [];
      is_end = inr refl;
      text_is = there.text_is ∙ ap (λ (r : List ℕ). field ++ (13 ∷ r)) rest;
      after = omega (arith, there.after);
      within = omega arith;
    }

pub number_to_feed : (text : List ℕ) (from bits value next : ℕ) → IsNumberTo text from 10 bits value next → IsLastNumber text from bits value next
number_to_feed text from bits value next n = record { field = n.field; there = last_to_feed text from next n.field n.there; digits = n.digits; is = n.is }

pub number_to_return : (text : List ℕ) (from bits value at : ℕ) → IsNumberTo text from 13 bits value at → at < length text → get_or text at 0 ≡ 10 → IsLastNumber text from bits value (at + 1)
number_to_return text from bits value at n inside feed = record { field = n.field; there = last_to_return text from at n.field n.there inside feed; digits = n.digits; is = n.is }

-- a field that is read in place and its comma, and the last one
module _ (text : List ℕ) (from next : ℕ) (field more line : List ℕ) (before : List (List ℕ)) (plain : is_plain field ≡ true) where
  pub comma_in_place : IsFieldTo text from 44 next field → HasRead line before (drop from text ++ more) → HasRead line (before ++ (field ∷ [])) (drop next text ++ more)
  comma_in_place there read =
      let e : drop from text ++ more ≡ field ++ (44 ∷ (drop next text ++ more)) = ap (λ (r : List ℕ). r ++ more) there.text_is ∙ append_assoc field (44 ∷ drop next text) more in
      next_and_comma line before field (drop next text ++ more) (rw e at read) plain

  pub end_in_place : IsLastField text from next field → HasRead line before (drop from text ++ more) → ReadsFirst line (before ++ (field ∷ [])) (drop next text ++ more)
  end_in_place there read =
      let ends = there.ends in
      let e : drop from text ++ more ≡ field ++ (ends ++ (drop next text ++ more)) =
      ap (λ (r : List ℕ). r ++ more) there.text_is ∙ append_assoc field (ends ++ drop next text) more ∙ ap (λ (r : List ℕ). field ++ r) (append_assoc ends (drop next text) more) in
      last_and_end line before field ends (drop next text ++ more) (rw e at read) plain there.is_end
