use Rattle.live_reading.proofs.LineBufferLemmas.{held_after}
use Rattle.live_reading.proofs.line_buffer.LineBuffer.take.Goals as goal

pub returns-clause-held : goal.returns-clause-held
returns-clause-held g c = let l = c.args.self.now in held_after l.buffer.items l.at l.filled c.args.count c.requires
