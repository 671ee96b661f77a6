use Rattle.std.proofs.Common.{refl}
use Rattle.record_reading.proofs.BufferLemmas.{known_all}
use Rattle.live_reading.proofs.live_parts.LiveInput.of.Goals as goal

pub returns-clause-says : goal.returns-clause-says
returns-clause-says g c =
    known_all (g.R.Read.remaining c.args.reader) (λ bytes e. record { bytes = bytes; known = c.in_ok-lines.ensures.reads bytes e; all_is = refl })
