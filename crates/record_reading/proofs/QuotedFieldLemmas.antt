-- Fields in quotes that are read in place are the fields that `csv` reads.
use Rattle.std.proofs.Common.{arith, ◌≡◌, ◌==◌, ◌≤◌, ◌<◌, ◌+◌, ◌-◌, ◌∷◌, ◌++◌, ◌∙◌, [], ℕ, List, true, not, add-one, drop, drop-cons, get_or, length, refl, ap, append_assoc}
use Rattle.std.proofs.lemmas.{Bool.{and_parts, ne_eqb, not-true}, List.{append-nil}}
use Rattle.csv.specs.{Machine.{next_record}, Reading.{default_config}}
use Rattle.csv.specs.declared.parser.State.TheVariants as st
use Rattle.record_reading.proofs.DigitLemmas.{span, split_at}
use Rattle.record_reading.proofs.PlainFieldLemmas.{comma_in_place, span_more}
use Rattle.record_reading.specs.inner.PlainLines.{IsFieldTo, is_plain}
use Rattle.record_reading.specs.inner.QuotedFields.{HasNextField, IsQuotedTo, has_no_quote}

-- between quotes, bytes other than a quote join the field at hand
quoted_run : (fields : List (List ℕ)) (field x tail : List ℕ) → has_no_quote x ≡ true
    → next_record default_config st.InQuoted fields field (x ++ tail) ≡ next_record default_config st.InQuoted fields (field ++ x) tail
unfolding next_record
quoted_run fields field [] tail e = rw (append-nil field) refl
quoted_run fields field (b ∷ rest) tail e =
    let p = and_parts (not (b == 34)) (has_no_quote rest) e in
    rw (not-true (b == 34) p.0) (quoted_run fields (field ++ (b ∷ [])) rest tail p.1
    ∙ ap (λ (f : List ℕ). next_record default_config st.InQuoted fields f tail) (append_assoc field (b ∷ []) rest))

-- a quote, such bytes, a quote and a comma add the field
quoted_and_comma : (fields : List (List ℕ)) (x rest : List ℕ) → has_no_quote x ≡ true
    → next_record default_config st.StartField fields [] (34 ∷ (x ++ (34 ∷ 44 ∷ rest))) ≡ next_record default_config st.StartField (fields ++ (x ∷ [])) [] rest
unfolding next_record
quoted_and_comma fields x rest unquoted = quoted_run fields [] x (34 ∷ 44 ∷ rest) unquoted

-- one byte more between the quotes
pub unquoted_more : (text : List ℕ) (from at : ℕ) → from ≤ at → at < length text → (get_or text at 0 ≡ 34 → ⊥)
    → has_no_quote (span text from at) ≡ true → has_no_quote (span text from (at + 1)) ≡ true
unquoted_more text from at reaches within quote so_far =
    let byte : not (get_or text at 0 == 34) ≡ true = rw (ne_eqb (get_or text at 0) 34 quote) refl in
    span_more (λ b. not (b == 34)) text from at reaches within byte so_far

-- the byte at a place, and what is after it
split_byte : (text : List ℕ) (at byte : ℕ) → at < length text → get_or text at 0 ≡ byte → drop at text ≡ byte ∷ drop (at + 1) text
split_byte text at byte within is = rw (add-one, ← is) (drop-cons text at 0 within)

-- a quote at a place, the bytes up to the next quote, and a comma behind it
pub quoted_to : (text : List ℕ) (from at : ℕ) → from + 1 ≤ at → at + 1 < length text → get_or text from 0 ≡ 34 → get_or text at 0 ≡ 34 → get_or text (at + 1) 0 ≡ 44
    → has_no_quote (span text (from + 1) at) ≡ true → IsQuotedTo text from (span text (from + 1) at) (at + 1 + 1)
quoted_to text from at reaches within first second comma unquoted =
    let opens = split_byte text from 34 (omega arith) first in
    let there : IsFieldTo text (from + 1) 34 (at + 1) (span text (from + 1) at) = rw second at (split_at text (from + 1) at reaches (omega arith)) in
    let stops = split_byte text (at + 1) 44 within comma in
    let last : at + 1 + 1 - 1 ≡ at + 1 = omega arith in record {
      text_is = opens ∙ ap (λ (r : List ℕ). 34 ∷ r) (there.text_is ∙ ap (λ (r : List ℕ). span text (from + 1) at ++ (34 ∷ r)) stops);
      unquoted = unquoted;
      after = omega arith;
      within = omega arith;
      stop_is = rw last comma;
    }

-- `csv` reads on after such a field, as it does after a plain one
pub next_of_quoted : (text : List ℕ) (from : ℕ) (field : List ℕ) (next : ℕ) → IsQuotedTo text from field next → HasNextField text from field next
next_of_quoted text from field next there = record {
  reads = λ more line before read.
      let e : drop from text ++ more ≡ 34 ∷ (field ++ (34 ∷ 44 ∷ (drop next text ++ more))) =
      ap (λ (r : List ℕ). r ++ more) there.text_is ∙ ap (λ (r : List ℕ). 34 ∷ r) (append_assoc field (34 ∷ 44 ∷ drop next text) more) in
      (rw e at read) ∙ quoted_and_comma before field (drop next text ++ more) there.unquoted;
  after = there.after;
  within = there.within;
  stop_is = there.stop_is;
}

pub next_of_plain : (text : List ℕ) (from : ℕ) (field : List ℕ) (next : ℕ) → IsFieldTo text from 44 next field → is_plain field ≡ true → HasNextField text from field next
next_of_plain text from field next there plain = record {
  reads = λ more line before read. comma_in_place text from next field more line before plain there read;
  after = there.after;
  within = there.within;
  stop_is = there.stop_is;
}
