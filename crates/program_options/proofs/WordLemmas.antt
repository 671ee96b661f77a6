-- What a parse of a program's words found.
use Rattle.std.proofs.Common.{◌≡◌, ◌∙◌, ◌⊎◌, ℕ, Bool, true, false, List, [], ◌∷◌, Option, Some, None, map, refl, ap, sym, subst, inl, inr}
use Rattle.std.specs.{List.{filter, find}, Prelude.{option_and_then, option_map}, Str.{bytes_eq}}
use Rattle.clap.proofs.SimpleLemmas.{is_false, is_nil}
use Rattle.clap.proofs.WalkLemmas.{both, find-map, first_value-rows, one_text-rows}
use Rattle.clap.specs.Built.{BuildsOrBreaks, is_broken}
use Rattle.clap.specs.Facts.{Entry, IsParsed, args_of, groups_of}
use Rattle.clap.specs.{Faults.{fault_of, is_simple_and_free}, Kinds.{HasKind, IsAmong}}
use Rattle.clap.specs.Matches.{first_value, matched_of, one_text}
use Rattle.clap.specs.Simple.{App, HasMatchesOf, app_of, built, is_buildable, is_simple}
use Rattle.clap.specs.Walk.{Row, Rule, Text, first_of, one_of, row_of, rows_of, rule_of}
use Rattle.clap.specs.{Words.{found_of, kind_of}, declared.builder.command.Command.{Command}}
use Rattle.clap.specs.declared.{builder.command.Command.TheViews.{out-Command}, error.Error.{Error}}
use Rattle.clap.specs.declared.error.kind.ErrorKind.TheVariants.{OutOfMemory}
use Rattle.clap.specs.declared.parser.matches.{ArgMatches.{ArgMatches}, Found.{Found}}
use Rattle.clap.specs.declared.parser.matches.MatchedArg.{MatchedArg}
use Rattle.program_options.proofs.Parsed.{number_found}
use Rattle.program_options.specs.Options.{IsNumberIn, is_from_words, is_given}
use Rattle.program_options.specs.Words.{AreTaken, HaveNumbers, IsOneNumber, given_in, source_of, text_in, value_in}

-- what is found for an option has its text from where its row has it
source-rows : (f : Found) (id : Text) → option_and_then (λ (a : MatchedArg). a.source) (matched_of f id) ≡ source_of id (rows_of f)
source-rows f id =
    go (find (λ (e : Entry). bytes_eq e.0.now id) f.entries.items)
    ∙ ap (option_and_then (λ (r : Row). r.source)) (find-map (λ (r : Row). bytes_eq r.id id) row_of f.entries.items) where
      go : (o : Option Entry) → option_and_then (λ (a : MatchedArg). a.source) (option_map (λ e. e.1) o) ≡ option_and_then (λ (r : Row). r.source) (option_map row_of o)
      go None = refl
      go (Some e) = refl

module _ (program : App) (free : is_simple_and_free program ≡ true) where
  simple : is_simple program ≡ true
  simple = (both (is_simple program) _ free).0

  buildable : is_buildable program ≡ true
  buildable = (both (is_buildable program) _ simple).0

  plain : program.top.is_plain ≡ true
  plain = (both program.top.is_plain _ (both _ _ buildable).0).0

  built_plain : (built program).top.is_plain ≡ true
  built_plain = (both (built program).top.is_plain _ (both _ _ (both _ _ (both _ _ simple).1).0).0).0

  -- the texts that were found are those that the words give
  pub texts_found : (words given : List Text) (m : ArgMatches) → HasMatchesOf program given m → given ≡ words → (id : Text)
      → one_text (found_of m) id ≡ text_in program words id
  texts_found words given m matches same id =
      one_text-rows (found_of m) id ∙ ap (one_of id) (matches simple).0 ∙ ap (λ ws. text_in program ws id) same

  pub values_found : (words given : List Text) (m : ArgMatches) → HasMatchesOf program given m → given ≡ words → (id : Text)
      → first_value (found_of m) id ≡ value_in program words id
  values_found words given m matches same id =
      first_value-rows (found_of m) id ∙ ap (first_of id) (matches simple).0 ∙ ap (λ ws. value_in program ws id) same

  pub given_found : (words given : List Text) (m : ArgMatches) → HasMatchesOf program given m → given ≡ words → (id : Text)
      → is_given (found_of m) id ≡ given_in program words id
  given_found words given m matches same id =
      ap is_from_words (source-rows (found_of m) id ∙ ap (source_of id) (matches simple).0) ∙ ap (λ ws. given_in program ws id) same

  -- words that are taken fail for want of memory alone
  pub only_memory : (words given : List Text) (error : Error) → HasKind (fault_of program given) error → given ≡ words → AreTaken program words
      → kind_of error ≡ OutOfMemory
  only_memory words given error (inl memory) same taken = memory
  only_memory words given error (inr other) same taken = absurd (subst (IsAmong (kind_of error)) (ap (fault_of program) same ∙ taken) other)

  -- words in which no fault is found are taken
  pub no_fault : (words given : List Text) → fault_of program given ≡ [] → given ≡ words → AreTaken program words
  no_fault words given none same = sym (ap (fault_of program) same) ∙ none

  -- a parse that succeeds leaves the command as it was, or built
  built_or_not : (old new : Command) → (is_broken new ≡ true → ⊥) → BuildsOrBreaks old new → app_of old ≡ program
      → (app_of new ≡ program) ⊎ (app_of new ≡ built program)
  built_or_not old new whole (inl broken) same = absurd (whole broken)
  built_or_not old new whole (inr (builds, names, inl unbuilt)) same = inl (unbuilt ∙ same)
  built_or_not old new whole (inr (builds, names, inr done)) same = inr (done (ap is_buildable same ∙ buildable) ∙ ap built same)

  module _ (c : Command) (f : Found) (has : Bool) (parsed : (out-Command c).has_globals ≡ false → IsParsed c f has) where
    plain_groups : (app_of c).top.is_plain ≡ true → groups_of c ≡ []
    plain_groups is_plain = is_nil (groups_of c) (both _ _ is_plain).0

    plain_globals : (app_of c).top.is_plain ≡ true → (out-Command c).has_globals ≡ false
    plain_globals is_plain = is_false (out-Command c).has_globals (both _ _ (both _ _ (both _ _ is_plain).1).1).0

    one_found : (is_plain : (app_of c).top.is_plain ≡ true) (id : Text) (least greatest : ℕ) → (id ≡ [] → ⊥) → (rules : List Rule)
        → filter (λ r. bytes_eq r.id id) (map rule_of (args_of c)) ≡ rules → IsOneNumber id least greatest rules → IsNumberIn least greatest (one_text f id)
    one_found is_plain id least greatest named (rule ∷ []) same one =
        number_found c f has (parsed (plain_globals is_plain)) (plain_groups is_plain) id named rule same one.0.own one.0.simple one.0.action one.1 one.0.usual
        least greatest one.0.parser
    one_found is_plain id least greatest named rules same one = absurd one

    -- each option of a number has one in its range
    numbers_found : (app_of c ≡ program) ⊎ (app_of c ≡ built program) → HaveNumbers program (one_text f)
    numbers_found (inl same) id least greatest option =
        one_found (ap (λ (a : App). a.top.is_plain) same ∙ plain) id least greatest option.named _
        (ap (λ (a : App). filter (λ r. bytes_eq r.id id) a.top.rules) same) option.given
    numbers_found (inr same) id least greatest option =
        one_found (ap (λ (a : App). a.top.is_plain) same ∙ built_plain) id least greatest option.named _
        (ap (λ (a : App). filter (λ r. bytes_eq r.id id) a.top.rules) same) option.filled

  pub numbers_parsed : (old new : Command) (m : ArgMatches) (has : Bool) → ((out-Command new).has_globals ≡ false → IsParsed new (found_of m) has)
      → (is_broken new ≡ true → ⊥) → BuildsOrBreaks old new → app_of old ≡ program → HaveNumbers program (one_text (found_of m))
  numbers_parsed old new m has parsed whole builds same = numbers_found new (found_of m) has parsed (built_or_not old new whole builds same)
