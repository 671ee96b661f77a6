use Rattle.std.proofs.Common.{◌≡◌, ◌∙◌, ◌∷◌, [], List, false, ap₂, map, subst}
use Rattle.std.{proofs.lemmas.Result.{IfOk-weaker}, specs.{List.{AllByRecursion}, Prelude.{fold}}}
use Rattle.clap.specs.{Built.{AddsArg, AddsInTurn}, Simple.{with_rule}, Words.{app_of, rule_of}}
use Rattle.clap.specs.declared.builder.arg.Arg.{Arg}
use Rattle.program_options.proofs.AddedRules.{rules_added}
use Rattle.rubis_check.specs.Words.{option_rules, program}
use Rattle.rubis_check.proofs.options.command.Goals as goal

pub returns : goal.returns
returns c =
    let options : List Arg = c.history_option.result ∷ c.described_number.result ∷ c.described_number-2.result ∷ c.described_number-3.result ∷ c.described_flag.result ∷ c.described_flag-2.result ∷ [] in
    let local : AllByRecursion (λ a. a.global ≡ false) options = (c.history_option.ensures.local, (c.described_number.ensures.local, (c.described_number-2.ensures.local, (c.described_number-3.ensures.local, (c.described_flag.ensures.local, (c.described_flag-2.ensures.local, tt)))))) in
    let rules : map rule_of options ≡ option_rules = λ i. c.history_option.ensures.rule i ∷ c.described_number.ensures.rule i ∷ c.described_number-2.ensures.rule i ∷ c.described_number-3.ensures.rule i ∷ c.described_flag.ensures.rule i ∷ c.described_flag-2.ensures.rule i ∷ [] in
    IfOk-weaker c.args-2.result _ (λ command. app_of command ≡ program) (λ command added.
    rules_added c.described_program.result command options local (subst (λ all. AddsInTurn AddsArg c.described_program.result all command) c.in_ok-options.ensures.items added)
    ∙ ap₂ (fold with_rule) c.described_program.ensures rules) c.args-2.ensures
