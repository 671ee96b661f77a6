use Rattle.std.proofs.{Common.{◌∙◌, ◌++◌, List, ℕ, ap, sym}, lemmas.Grind.{flat_map-append}}
use Rattle.auction_rows.specs.History.{rows_of}
use Rattle.auction_text.specs.{Replies.{lines}, RowLines.{row_line}}
use Rattle.auction_text.proofs.writing.output.rows_text.Goals as goal

pub returns : goal.returns
returns c =
    let rows = c.args.rows.now in let more = rows_of c.args.history.now.entries in
    c.in_ok-push_rows_of.ensures
    ∙ ap (λ (text : List ℕ). text ++ lines row_line more) (c.in_ok-push_rows.ensures ∙ ap (λ (text : List ℕ). text ++ lines row_line rows) c.in_ok-text.ensures.items)
    ∙ sym (flat_map-append row_line rows more)
