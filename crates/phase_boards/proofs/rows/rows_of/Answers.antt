use Rattle.std.proofs.{Common.{◌∙◌, ap}, lemmas.List.{take_all}}
use Rattle.auction_rows.specs.History.{rows_of}
use Rattle.phase_boards.proofs.RowLemmas.{one_more}
use Rattle.phase_boards.proofs.rows.rows_of.Goals as goal

pub loop-entry-preserved : goal.loop-entry-preserved
loop-entry-preserved c =
    one_more c.args.entries.now c.loop-entry.entry-index _ c.loop-entry.rows.items _ _ c.loop-entry-test.true c.entry-item.is c.row_of.ensures c.in_ok-push_row.ensures c.loop-entry.invariant

pub returns : goal.returns
returns c = c.loop-entry.invariant ∙ ap rows_of (take_all c.loop-entry.entry-index c.args.entries.now c.loop-entry-test.false)
