-- The rules of options that are added in turn.
use Rattle.std.proofs.Common.{◌≡◌, ◌∙◌, false, List, [], ◌∷◌, map, ap, sym}
use Rattle.std.specs.{List.{AllByRecursion}, Prelude.{fold}}
use Rattle.clap.specs.{Built.{AddsArg, AddsInTurn}, Simple.{app_of, with_rule}, Walk.{rule_of}}
use Rattle.clap.specs.declared.builder.{arg.Arg.{Arg}, command.Command.{Command}}

pub rules_added : (old new : Command) (options : List Arg) → AllByRecursion (λ a. a.global ≡ false) options → AddsInTurn AddsArg old options new
    → app_of new ≡ fold with_rule (app_of old) (map rule_of options)
rules_added old new [] local added = ap app_of (sym added)
rules_added old new (option ∷ options) local added =
    rules_added added.0 new options local.1 added.2 ∙ ap (λ app. fold with_rule app (map rule_of options)) (added.1.shape local.0)
