use Rattle.std.proofs.Common.{arith}
use Rattle.record_reading.proofs.WholeLineLemmas.{no_feed_in}
use Rattle.live_reading.proofs.LiveLineLemmas.{feed_ends}
use Rattle.live_reading.proofs.live_lines.line_len.Goals as goal

pub returns-in-None-clause-len : goal.returns-in-None-clause-len
returns-in-None-clause-len c = no_feed_in c.args.text.now (λ place within. c.in-None.ensures place (omega arith) within)

pub returns-in-Some-clause-len : goal.returns-in-Some-clause-len
returns-in-Some-clause-len c =
    let (none, here) = c.in-Some.ensures in
    feed_ends c.args.text.now c.in-Some.place none.high here (λ before less. none.before before (omega arith) less)
