use Rattle.std.{proofs.Common.{◌≡◌, ◌∙◌, ℕ, List, [], ◌∷◌, Some, ap}, specs.Borrow.{Bor}}
use Rattle.clap.specs.{Simple.{new_rule}, Walk.{Rule, rule_of}}
use Rattle.clap.specs.declared.builder.{action.ArgAction.TheVariants.{Set}, arg.Arg.{Arg}}
use Rattle.clap.specs.declared.builder.texts.Texts.TheVariants.{One}
use Rattle.clap.specs.declared.builder.value_parser.ValueParser.{ValueParser}
use Rattle.program_options.proofs.options.number_option.Goals as goal

-- the rule of a new option, as it is filled in
filled : (id usual : Bor (List ℕ)) (parser : ValueParser) (bare long set read option : Arg) → rule_of bare ≡ new_rule id.now → long ≡ record bare { long = Some id }
    → set ≡ record long { action = Some Set } → read ≡ record set { value_parser = read.value_parser } → read.value_parser ≡ Some parser
    → option ≡ record read { default_vals = One usual }
    → rule_of option ≡ record (new_rule id.now) { long = Some id.now; action = Some Set; defaults = usual.now ∷ []; parser = Some parser }
filled id usual parser bare long set read option is_new is_long is_set is_read reads is_option =
    ap rule_of is_option
    ∙ ap (λ (a : Arg). record (rule_of a) { defaults = usual.now ∷ [] }) (is_read ∙ ap (λ p. record set { value_parser = p }) reads)
    ∙ ap (λ (a : Arg). record (rule_of a) { defaults = usual.now ∷ []; parser = Some parser }) (is_set ∙ ap (λ (a : Arg). record a { action = Some Set }) is_long)
    ∙ ap (λ (r : Rule). record r { long = Some id.now; action = Some Set; defaults = usual.now ∷ []; parser = Some parser }) is_new

pub returns-clause-rule : goal.returns-clause-rule
returns-clause-rule c =
    filled c.args.id c.args.usual _ c.new.result c.long.result c.action.result c.value_parser.result c.default_value.result
    c.new.ensures.rule c.long.ensures c.action.ensures c.value_parser.ensures.others (c.value_parser.ensures.given.1 ∙ ap Some (c.value_parser.ensures.given.2 ∙ c.number_parser.ensures)) c.default_value.ensures
