use Rattle.std.{proofs.Common.{◌∙◌, Some, ap, is_lt, sym}, specs.Option.{option_cmp}}
use Rattle.split_records.proofs.ordered.is_below.Goals as goal

pub returns-in-Some : goal.returns-in-Some
returns-in-Some g c = c.is_lt.ensures ∙ ap is_lt (c.cmp.ensures ∙ ap (option_cmp g.E.Ord.cmp (Some c.args.entry.now)) (sym c.in-Some.is))
