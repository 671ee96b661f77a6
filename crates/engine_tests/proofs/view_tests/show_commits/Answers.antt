use Rattle.std.proofs.{Common.{◌≡◌, ◌∷◌, [], ◌++◌, take, ap, ◌∙◌}, lemmas.List.{take-append-drop}}
use Rattle.auction_rows.specs.History.{rows_of}
use Rattle.auction_window.specs.Published.{Published}
use Rattle.engine_tests.proofs.RowLemmas.{first_follows, last_follows}
use Rattle.engine_tests.proofs.view_tests.show_commits.Goals as goal

pub publish-told-requires : goal.publish-told-requires
publish-told-requires g c =
    let r = c.requires in let commits = c.args.commits.now in let cut = c.split_at in
    let whole : cut.result.0.now ++ cut.result.1.now ≡ commits = ap (λ xs. xs ++ cut.result.1.now) cut.ensures.front ∙ ap (λ ys. take 1 commits ++ ys) cut.ensures.back ∙ take-append-drop 1 commits in
    first_follows g.J.WindowName.opening g.J.WindowName.rows _ commits cut.result.0.now cut.result.1.now r.empty whole r.rows (ap (λ (p : Published). p.phases) c.in-Ok.ensures.publisher)

pub publish-told-requires-2 : goal.publish-told-requires-2
publish-told-requires-2 g c =
    let r = c.requires in let commits = c.args.commits.now in let cut = c.split_at in
    let whole : cut.result.0.now ++ cut.result.1.now ≡ commits = ap (λ xs. xs ++ cut.result.1.now) cut.ensures.front ∙ ap (λ ys. take 1 commits ++ ys) cut.ensures.back ∙ take-append-drop 1 commits in
    last_follows g.J.WindowName.opening g.J.WindowName.rows _ commits cut.result.0.now cut.result.1.now r.empty whole r.rows
    (ap (λ (p : Published). p.phases) c.publish-told.ensures ∙ ap (λ (p : Published). p.phases ++ rows_of cut.result.0.now ∷ []) c.in-Ok.ensures.publisher)
