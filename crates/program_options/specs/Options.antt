-- Options of numbers and texts, and flags, as rules of the parser of words (`clap`), and what their texts say.
use Rattle.std.specs.Prelude.{◌≡◌, ◌≤◌, ℕ, Bool, true, false, List, [], ◌∷◌, Option, Some, None, codes, option_and_then, pos, ⊤}
use Rattle.std.specs.Str.{Parse.{IsNumeral, digits_value, without_leading_plus}, bytes_eq}
use Rattle.clap.specs.{Matches.{matched_of}, Simple.{App, new_app, new_rule, on_top}, Walk.{Rule}}
use Rattle.clap.specs.declared.builder.action.ArgAction.TheVariants.{Set, SetTrue}
use Rattle.clap.specs.declared.builder.value_parser.ValueParser.TheVariants.{Signed}
use Rattle.clap.specs.declared.parser.matches.{Found.{Found}, ValueSource.{ValueSource}}
use Rattle.clap.specs.declared.parser.matches.ValueSource.TheVariants.{DefaultValue, CommandLine}

-- `--id NUMBER`, with a number from the least to the greatest; the usual one where the words don't have it
abbrev pub number_rule : List ℕ → ℕ → ℕ → List ℕ → Rule
number_rule id least greatest usual = record (new_rule id) {
  long = Some id;
  action = Some Set;
  defaults = usual ∷ [];
  parser = Some (Signed (pos least) (pos greatest));
}

-- the same, for which help has a word
abbrev pub named_rule : List ℕ → ℕ → ℕ → List ℕ → Rule
named_rule id least greatest usual = record (number_rule id least greatest usual) { value_names = 1 }

-- `--id`
abbrev pub flag_rule : List ℕ → Rule
flag_rule id = record (new_rule id) { long = Some id; action = Some SetTrue }

-- `--id TEXT`, which need not be there
abbrev pub text_rule : List ℕ → Rule
text_rule id = record (new_rule id) { long = Some id; action = Some Set }

-- the same, for which help has a word
abbrev pub file_rule : List ℕ → Rule
file_rule id = record (text_rule id) { value_names = 1 }

-- a program with no options but those for help and its version
abbrev pub versioned_program : List ℕ → App
versioned_program name = on_top (λ shape. record shape { has_version = true }) (new_app name)

-- the number that a text says
abbrev pub number_of : Option (List ℕ) → ℕ
number_of None = 0
number_of (Some text) = digits_value 10 (without_leading_plus text)

-- the text is that of a number in a range
abbrev pub IsNumberIn : ℕ → ℕ → Option (List ℕ) → Type 0
IsNumberIn least greatest None = ⊥
IsNumberIn least greatest (Some text) =
    let number = digits_value 10 (without_leading_plus text) in
    IsNumeral 10 (without_leading_plus text) × ((least ≤ number) × (number ≤ greatest))

-- the text says this number, where it says one of the range
abbrev pub SaysNumber : ℕ → ℕ → Option (List ℕ) → ℕ → Type 0
SaysNumber least greatest None number = ⊤
SaysNumber least greatest (Some text) number =
    let said = digits_value 10 (without_leading_plus text) in
    IsNumeral 10 (without_leading_plus text) → least ≤ said → said ≤ greatest → number ≡ said

-- whether a flag with this text is set
abbrev pub is_set : Option (List ℕ) → Bool
is_set None = false
is_set (Some text) = bytes_eq text (codes "true")

-- a text is from the words, and not the usual one
abbrev pub is_from_words : Option ValueSource → Bool
is_from_words None = false
is_from_words (Some DefaultValue) = false
is_from_words (Some CommandLine) = true

-- whether the words that were parsed give an option
abbrev pub is_given : Found → List ℕ → Bool
is_given found id = is_from_words (option_and_then (λ matched. matched.source) (matched_of found id))
