-- What a program's words say of its options, by the parser of words (`clap`).
use Rattle.std.specs.List.{filter}
use Rattle.std.specs.Prelude.{◌≡◌, ◌<◌, ◌≤◌, ℕ, Bool, true, List, [], ◌∷◌, length, Option, Some, None, find, option_and_then, pos, string_bytes}
use Rattle.std.specs.Str.{bytes_eq}
use Rattle.clap.specs.{Facts.{unwrap_or_range}, Faults.{fault_of}, Matches.{first_value, one_text}}
use Rattle.clap.specs.{Simple.{App, built, matches_of}, Walk.{Rule, Row, first_of, one_of}}
use Rattle.clap.specs.declared.builder.action.ArgAction.TheVariants.{Set}
use Rattle.clap.specs.declared.builder.value_parser.ValueParser.TheVariants.{Signed}
use Rattle.clap.specs.declared.parser.matches.{Found.{Found}, ValueSource.{ValueSource}}
use Rattle.program_options.specs.Options.{IsNumberIn, is_from_words, is_given}
use Rattle.program_options.specs.declared.words.UsageFault.{TheVariants.{Text, Memory}, UsageFault}

-- The parser finds no fault in the words: after the program's name they are options of it, each once at most, with its number in its range.
abbrev pub AreTaken : App → List (List ℕ) → Type 0
AreTaken program words = fault_of program words ≡ []

-- the text of an option: what the words give, or else its usual one
abbrev pub text_in : App → List (List ℕ) → List ℕ → Option (List ℕ)
text_in program words id = one_of id (matches_of program words)

-- the same, as it stands in the words
abbrev pub value_in : App → List (List ℕ) → List ℕ → Option (List ℕ)
value_in program words id = first_of id (matches_of program words)

-- where the row of an option has its text from
abbrev pub source_of : List ℕ → List Row → Option ValueSource
source_of id rows = option_and_then (λ row. row.source) (find (λ row. bytes_eq row.id id) rows)

-- whether the words give an option
abbrev pub given_in : App → List (List ℕ) → List ℕ → Bool
given_in program words id = is_from_words (source_of id (matches_of program words))

-- The option takes one number of a range, and has a usual one.
pub record IsNumberRule (id : List ℕ) (least greatest : ℕ) (rule : Rule) : Type 0 where
  -- the rule is the option's
  pub own : rule.id ≡ id
  -- it takes one word
  pub simple : rule.is_simple ≡ true
  -- and sets it
  pub action : rule.action ≡ Some Set
  -- which is a number of the range
  pub parser : rule.parser ≡ Some (Signed (pos least) (pos greatest))
  -- it has a usual one
  pub usual : 0 < length rule.defaults

-- these rules are of one option alone, and it is such a one
abbrev pub IsOneNumber : List ℕ → ℕ → ℕ → List Rule → Type 0
IsOneNumber id least greatest [] = ⊥
IsOneNumber id least greatest (rule ∷ []) = IsNumberRule id least greatest rule × (1 ≤ (unwrap_or_range rule.range).start_inclusive)
IsOneNumber id least greatest (rule ∷ next ∷ rules) = ⊥

-- the rules of an option
abbrev pub rules_of : App → List ℕ → List Rule
rules_of program id = filter (λ rule. bytes_eq rule.id id) program.top.rules

-- A program has one option of an id, which takes a number of a range, as it is given and as the parser fills it in.
pub record HasNumberOption (program : App) (id : List ℕ) (least greatest : ℕ) : Type 0 where
  pub named : id ≡ [] → ⊥
  pub given : IsOneNumber id least greatest (rules_of program id)
  pub filled : IsOneNumber id least greatest (rules_of (built program) id)

-- each such option has a number of its range
abbrev pub HaveNumbers : App → (List ℕ → Option (List ℕ)) → Type 0
HaveNumbers program text = (id : List ℕ) (least greatest : ℕ) → HasNumberOption program id least greatest → IsNumberIn least greatest (text id)

-- What is found of a program's options is what its words say, in which the parser finds no fault.
pub record FindsSaid (program : App) (words : List (List ℕ)) (found : Found) : Type 0 where
  -- the text of each option
  pub texts : (id : List ℕ) → one_text found id ≡ text_in program words id
  -- the same, as it stands in the words
  pub values : (id : List ℕ) → first_value found id ≡ value_in program words id
  -- whether the words give it
  pub given : (id : List ℕ) → is_given found id ≡ given_in program words id
  -- an option of a number has one of its range
  pub numbers : HaveNumbers program (one_text found)
  pub taken : AreTaken program words

-- the parser's words, where the program's are refused by it
abbrev pub usage_words : UsageFault → Option (List ℕ)
usage_words (Text words) = Some (string_bytes words)
usage_words Memory = None
