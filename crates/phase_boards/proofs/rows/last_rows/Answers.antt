use Rattle.std.proofs.{Common.{◌∙◌, ◌++◌, List, ap, sym, rules}, lemmas.List.{append-nil}}
use Rattle.auction_rows.specs.{History.{rows_of}, declared.rows.Entry.{Entry}}
use Rattle.worker_journals.specs.Merged.{merged}
use Rattle.phase_boards.proofs.RowLemmas.{gone_by}
use Rattle.phase_boards.proofs.rows.last_rows.Goals as goal

pub loop-entry-init : goal.loop-entry-init
loop-entry-init c = search rules

pub loop-entry-preserved : goal.loop-entry-preserved
loop-entry-preserved c =
    gone_by c.loop-entry.rows.items _ c.in-Some.entry c.next.new.self c.loop-entry.entry-iterator (merged c.args.history.now.last) _ c.in-Some.ensures.steps c.row.ensures
    c.in_ok-push_row.ensures c.loop-entry.invariant

pub returns : goal.returns
returns c =
    sym (append-nil c.loop-entry.rows.items)
    ∙ ap (λ (es : List Entry). c.loop-entry.rows.items ++ rows_of es) (sym c.in-None.ensures.steps.0)
    ∙ c.loop-entry.invariant
