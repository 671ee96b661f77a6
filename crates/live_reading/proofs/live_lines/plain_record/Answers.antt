use Rattle.live_reading.proofs.LiveLineLemmas.{whole_ends}
use Rattle.live_reading.proofs.live_lines.plain_record.Goals as goal

pub line_at-requires-clause-ends : goal.line_at-requires-clause-ends
line_at-requires-clause-ends c = whole_ends c.args.line.now c.requires.whole
