use Rattle.std.proofs.Common.{◌∙◌, ap}
use Rattle.auction_program.proofs.ViewLemmas.{if_ok_some}
use Rattle.auction_program.specs.{Report.{category_views, user_views}, inner.Views.{IsEnd}}
use Rattle.auction_program.proofs.execution.last_lines.Goals as goal

pub returns : goal.returns
returns g c =
    if_ok_some c.report_lines.result c.ok.result _ _ _ c.ok.ensures.value c.report_lines.ensures.categories c.report_lines.ensures.users (λ lines categories users all book told end.
    let W = g.J.WindowName in
    let here : IsEnd W.opening W.rows c.learn_last.new.window all c.args.state.now book =
    record { known = c.learn_last.ensures all told; counted = end.counted; book_is = end.book_is; opening_is = end.opening_is; stands = end.stands } in
    record {
      categories_are = categories all book here ∙ ap (λ o. category_views o book) c.requires;
      users_are = users all book here ∙ ap (λ o. user_views o book) c.requires;
    })
