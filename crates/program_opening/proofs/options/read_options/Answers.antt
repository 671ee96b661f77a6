use Rattle.std.proofs.Common.{◌≡◌, Bool, codes, map, string_bytes, sym, subst}
use Rattle.std.proofs.lemmas.Result.{IfErr-weaker, IfOk-weaker}
use Rattle.clap.specs.{Matches.{first_value, found_of, one_text}, Simple.{App, app_of}}
use Rattle.program_options.specs.Options.{number_of}
use Rattle.program_options.specs.Words.{AreTaken, FindsSaid, given_in, text_in, value_in}
use Rattle.program_options.specs.declared.words.UsageFault.TheVariants.{Memory}
use Rattle.program_opening.proofs.{ErrorLemmas.{error_is}, ProgramWords.{is_free}}
use Rattle.program_opening.specs.Words.{SayOptions, SaysEnd, program}
use Rattle.program_opening.proofs.options.read_options.Goals as goal

pub returns : goal.returns
returns c =
    let parse = c.in_ok-matches in let found = found_of parse.matches in
    let words = map string_bytes c.args.words.now in
    let free = is_free (app_of c.in-Ok.command) c.in-Ok.ensures in
    let finds : FindsSaid program words found = subst (λ (a : App). FindsSaid a words found) c.in-Ok.ensures (parse.ensures.finds free) in
    record {
      given = IfOk-weaker c.options_of.result _ (SayOptions (text_in program words) (value_in program words) (given_in program words))
          (λ options said. subst (λ text. SayOptions text (value_in program words) (given_in program words) options) (λ i id. finds.texts id i)
          (subst (λ value. SayOptions (one_text found) value (given_in program words) options) (λ i id. finds.values id i)
          (subst (λ which. SayOptions (one_text found) (first_value found) which options) (λ i id. finds.given id i) (said finds.numbers)))) c.options_of.ensures.given;
      range = c.options_of.ensures.range;
      taken = IfOk-weaker c.options_of.result _ _ (λ options range. finds.taken) c.options_of.ensures.range;
      memory = IfErr-weaker c.options_of.result _ (λ fault. AreTaken program words → (ends : Bool) → SaysEnd (value_in program words (codes "faults")) (number_of (text_in program words (codes "live"))) ends → fault ≡ Memory)
          (λ fault is taken ends says. is finds.numbers ends (subst (λ how. SaysEnd how (number_of (one_text found (codes "live"))) ends) (sym (finds.values (codes "faults")))
          (subst (λ live. SaysEnd (value_in program words (codes "faults")) (number_of live) ends) (sym (finds.texts (codes "live"))) says))) c.options_of.ensures.memory;
    }

pub returns-in_err-matches-clause-memory : goal.returns-in_err-matches-clause-memory
returns-in_err-matches-clause-memory c =
    let words = map string_bytes c.args.words.now in
    error_is c.from_residual.result c.in_err-matches.field-0.0 (λ fault. AreTaken program words → (ends : Bool) → SaysEnd (value_in program words (codes "faults")) (number_of (text_in program words (codes "live"))) ends → fault ≡ Memory)
    c.from_residual.ensures
    (λ taken ends says. c.in_err-matches.ensures.memory (is_free (app_of c.in-Ok.command) c.in-Ok.ensures) (subst (λ a. AreTaken a words) (sym c.in-Ok.ensures) taken))
