use Rattle.std.proofs.Common.{◌≡◌, map, string_bytes, sym, subst}
use Rattle.std.proofs.lemmas.Result.{IfErr-weaker, IfOk-weaker, err_from_is_err_and}
use Rattle.std.specs.Prelude.{IfErr}
use Rattle.clap.specs.{Matches.{found_of, one_text}, Simple.{App, app_of}}
use Rattle.program_options.specs.Words.{AreTaken, FindsSaid, text_in, value_in}
use Rattle.program_options.specs.declared.words.UsageFault.TheVariants.{Memory}
use Rattle.rubis_check.{proofs.OptionLemmas.{is_free}, specs.Words.{SayOptions, program}}
use Rattle.rubis_check.proofs.options.read_options.Goals as goal

pub returns : goal.returns
returns c =
    let parse = c.in_ok-matches in let found = found_of parse.matches in
    let words = map string_bytes c.args.words.now in
    let free = is_free (app_of c.in-Ok.command) c.in-Ok.ensures in
    let finds : FindsSaid program words found = subst (λ (a : App). FindsSaid a words found) c.in-Ok.ensures (parse.ensures.finds free) in
    record {
      given = IfOk-weaker c.options_of.result _ (SayOptions (text_in program words) (value_in program words))
          (λ options said. subst (λ text. SayOptions text (value_in program words) options) (λ i id. finds.texts id i)
          (subst (λ value. SayOptions (one_text found) value options) (λ i id. finds.values id i) (said finds.numbers))) c.options_of.ensures.given;
      workers = c.options_of.ensures.workers;
      taken = IfOk-weaker c.options_of.result _ _ (λ options few. finds.taken) c.options_of.ensures.workers;
      memory = IfErr-weaker c.options_of.result _ _ (λ fault is taken. is) c.options_of.ensures.memory;
    }

pub returns-in_err-matches-clause-memory : goal.returns-in_err-matches-clause-memory
returns-in_err-matches-clause-memory c =
    let words = map string_bytes c.args.words.now in
    let is = err_from_is_err_and c.from_residual.result c.from_residual.ensures.1 in
    subst (λ r. IfErr r (λ fault. AreTaken program words → fault ≡ Memory)) (sym is.1)
    (subst (λ fault. AreTaken program words → fault ≡ Memory) (sym is.2)
    (λ taken. c.in_err-matches.ensures.memory (is_free (app_of c.in-Ok.command) c.in-Ok.ensures) (subst (λ a. AreTaken a words) (sym c.in-Ok.ensures) taken)))
