use Rattle.std.proofs.Common.{◌∙◌, ◌++◌, List, ℕ, ap}
use Rattle.auction_text.proofs.NumberedLemmas.{numbered_all, numbered_more}
use Rattle.auction_text.specs.Report.{category_line}
use Rattle.auction_text.proofs.writing.report.push_category_lines.Goals as goal

pub loop-category-preserved : goal.loop-category-preserved
loop-category-preserved c =
    let category = c.loop-category.category in let seen = c.index-categories-category.result in
    c.in_ok-push_category_line.ensures ∙ ap (λ (text : List ℕ). text ++ category_line category seen) c.loop-category.invariant
    ∙ numbered_more category_line c.args.text.now.items c.args.categories.now category seen c.loop-category-test.true c.index-categories-category.is

pub returns : goal.returns
returns c = numbered_all category_line (λ categories. categories) c.args.text.now.items c.loop-category.text.items c.args.categories.now c.loop-category.category c.loop-category-test.false c.loop-category.invariant
