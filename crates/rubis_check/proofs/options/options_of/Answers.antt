use Rattle.std.proofs.Common.{◌∙◌, ap, ap₂, codes, refl}
use Rattle.auction_rows.specs.declared.limits.TheConstants.{MOST_WORKERS}
use Rattle.clap.specs.Matches.{found_of, one_text}
use Rattle.program_options.proofs.NumberOptions.{number_is}
use Rattle.program_options.specs.declared.options.TheConstants.{MOST_ASKED}
use Rattle.rubis_check.{proofs.OptionLemmas.{name_found}, specs.Words.{order_of, program}}
use Rattle.rubis_check.proofs.options.options_of.Goals as goal

pub returns-clause-given : goal.returns-clause-given
returns-clause-given c = λ numbers. let text = one_text (found_of c.args.matches.now) in record {
  workers = number_is program (codes "workers") 1 MOST_WORKERS (codes "1") 1 (λ e. absurd cc) refl refl text _ numbers c.number_of.ensures.said;
  users = number_is program (codes "users") 0 MOST_ASKED (codes "100") 1 (λ e. absurd cc) refl refl text _ numbers c.number_of-2.ensures.said;
  categories = number_is program (codes "categories") 0 MOST_ASKED (codes "10") 1 (λ e. absurd cc) refl refl text _ numbers c.number_of-3.ensures.said;
  order = c.order_of.ensures ∙ ap₂ order_of c.flag_of.ensures c.flag_of-2.ensures;
  history = c.in-Ok.ensures.ok ∙ ap (λ s. s.now) c.unwrap_or-name.ensures ∙ name_found c.get_str.result _ _ refl c.get_str.ensures;
}
