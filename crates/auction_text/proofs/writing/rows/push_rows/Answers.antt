use Rattle.std.proofs.Common.{[]}
use Rattle.auction_text.{proofs.ListedLemmas.{all_listed, one_listed}, specs.RowLines.{row_line}}
use Rattle.auction_text.proofs.writing.rows.push_rows.Goals as goal

pub loop-row-preserved : goal.loop-row-preserved
loop-row-preserved c =
    one_listed row_line c.args.text.now.items [] c.loop-row.text.items c.push_row_line.new.text.items c.args.rows.now c.loop-row.row-index c.row-item.result
    c.loop-row-test.true c.row-item.is c.loop-row.invariant c.in_ok-push_row_line.ensures

pub returns : goal.returns
returns c = all_listed row_line c.args.text.now.items [] c.loop-row.text.items c.args.rows.now c.loop-row.row-index c.loop-row-test.false c.loop-row.invariant
