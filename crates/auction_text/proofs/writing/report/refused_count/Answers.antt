use Rattle.std.proofs.Common.{rules, tests, ◌∙◌}
use Rattle.std.proofs.lemmas.Iterator.Consumers.{YieldsList-at, YieldsList-from_filter, YieldsList-from_first, count_from_yields_List}
use Rattle.std.proofs.lemmas.List.Sums.{length-filter}
use Rattle.auction_rows.specs.StoreReplies.{is_refusal}
use Rattle.auction_text.proofs.writing.report.refused_count.Goals as goal

pub returns : goal.returns
returns c =
    let entries = c.args.history.now.entries in
    count_from_yields_List c.filter.result c.count.result c.count.ensures.ran
    (YieldsList-from_filter _ (λ e. is_refusal e.reply) (YieldsList-at c.filter.ensures.source (YieldsList-from_first (λ e. e) (λ left. left) entries c.iter.ensures))
    c.filter.ensures.closure (λ x b q k. search (rules, tests)))
    ∙ length-filter (λ e. is_refusal e.reply) entries
