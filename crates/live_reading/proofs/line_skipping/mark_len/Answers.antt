use Rattle.live_reading.proofs.MarkLemmas.{is_mark}
use Rattle.live_reading.proofs.line_skipping.mark_len.Goals as goal

pub returns-then-text-3-clause-mark : goal.returns-then-text-3-clause-mark
returns-then-text-3-clause-mark c = λ more. is_mark c.args.text.now more c.if-text.false c.if-text-2.false c.if-text-3.true
