-- Fields of a text that are in quotes, and what `csv` reads of them.
use Rattle.std.specs.List.{list_all}
use Rattle.std.specs.Prelude.{ℕ, Bool, true, not, ◌==◌, ◌≡◌, ◌≤◌, ◌<◌, ◌-◌, List, [], ◌∷◌, ◌++◌, drop, get_or, length}
use Rattle.record_reading.specs.{Lines.{quote}, inner.PlainLines.{HasRead, comma}}

-- no byte of a field is a quote
abbrev pub has_no_quote : List ℕ → Bool
has_no_quote field = list_all (λ byte. not (byte == quote)) field

-- From a place on, a text has this field between quotes, then a comma, and then what is from `next`
-- on.
pub record IsQuotedTo (text : List ℕ) (from : ℕ) (field : List ℕ) (next : ℕ) : Type 0 where
  pub text_is : drop from text ≡ quote ∷ (field ++ (quote ∷ comma ∷ drop next text))
  pub unquoted : has_no_quote field ≡ true
  pub after : from < next
  pub within : next ≤ length text
  pub stop_is : get_or text (next - 1) 0 ≡ comma

-- After any fields of a line, a text goes on with this one, and `next` is after it and its comma;
-- whatever comes after the text.
pub record HasNextField (text : List ℕ) (from : ℕ) (field : List ℕ) (next : ℕ) : Type 0 where
  pub reads : (more line : List ℕ) (before : List (List ℕ)) →
      HasRead line before (drop from text ++ more) →
      HasRead line (before ++ (field ∷ [])) (drop next text ++ more)
  pub after : from < next
  pub within : next ≤ length text
  pub stop_is : get_or text (next - 1) 0 ≡ comma
