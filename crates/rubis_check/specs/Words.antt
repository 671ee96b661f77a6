-- What the program's words say of its options, by the parser of words (`clap`).
use Rattle.std.specs.Prelude.{◌≡◌, ℕ, Bool, true, false, List, [], ◌∷◌, Option, Some, codes, fold, string_bytes, unwrap_or}
use Rattle.auction_rows.specs.declared.limits.TheConstants.{MOST_WORKERS}
use Rattle.clap.specs.{Simple.{App, new_rule, with_rule}, Walk.{Rule}}
use Rattle.clap.specs.declared.builder.action.ArgAction.TheVariants.{Set}
use Rattle.history_check.specs.declared.lines.Order.{TheVariants.{Any, StoresFirst, Strict}, Order}
use Rattle.program_options.specs.Options.{flag_rule, is_set, named_rule, number_of, versioned_program}
use Rattle.program_options.specs.declared.options.TheConstants.{MOST_ASKED}
use Rattle.rubis_check.specs.declared.options.Options.{Options}

-- `--history FILE`, which has to be there
abbrev pub plain_history_rule : Rule
plain_history_rule = record (new_rule (codes "history")) {
  long = Some (codes "history");
  action = Some Set;
  required = true;
}

-- the same, for which help has a word
abbrev pub history_rule : Rule
history_rule = record plain_history_rule { value_names = 1 }

-- the program's options
abbrev pub option_rules : List Rule
option_rules =
    history_rule
    ∷ named_rule (codes "workers") 1 MOST_WORKERS (codes "1")
    ∷ named_rule (codes "users") 0 MOST_ASKED (codes "100")
    ∷ named_rule (codes "categories") 0 MOST_ASKED (codes "10")
    ∷ flag_rule (codes "order")
    ∷ flag_rule (codes "strict")
    ∷ []

abbrev pub program : App
program = fold with_rule (versioned_program (codes "rubis_check")) option_rules

-- the order that the flags ask for
abbrev pub order_of : Bool → Bool → Order
order_of first true = Strict
order_of true false = StoresFirst
order_of false false = Any

-- Texts say the options: each number and flag by its own text; the file is the one that is named.
pub record SayOptions (text value : List ℕ → Option (List ℕ)) (options : Options) : Type 0 where
  pub workers : options.workers ≡ number_of (text (codes "workers"))
  pub users : options.opening.users ≡ number_of (text (codes "users"))
  pub categories : options.opening.categories ≡ number_of (text (codes "categories"))
  pub order : options.order ≡ order_of (is_set (text (codes "order"))) (is_set (text (codes "strict")))
  pub history : string_bytes options.history ≡ unwrap_or (value (codes "history")) []
