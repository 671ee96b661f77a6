use Rattle.std.proofs.Common.{◌≡◌, ◌∙◌, ◌++◌, rules, sym, ap₂}
use Rattle.example_mean.specs.Totals.{mean_values, together, totals_of}
use Rattle.example_mean.proofs.mean_of.Goals as goal

pub returns : goal.returns
returns g c = λ all moved.
    let first = c.args.first.now in let second = c.args.second.now in
    let own : c.join-record.result.0 ≡ totals_of first = search rules in
    let other : c.join-record.result.1 ≡ totals_of second = search rules in
    c.merge.ensures ∙ ap₂ together own other ∙ sym (mean_values.of_both first second) ∙ mean_values.of_any_order (first ++ second) all moved
