use Rattle.record_reading.proofs.PlainLineLemmas.{line_in_place}
use Rattle.record_reading.proofs.plain_lines.line_at.Goals as goal

pub returns : goal.returns
returns c =
    line_in_place c.args.text.now c.args.at c.in_ok-worker.worker c.in_ok-worker.at_word c.in_ok-is_row.is_row c.in_ok-is_row.request c.in_ok-is_row.next
    c.in_ok-worker.ensures c.in_ok-is_row.ensures
