use Rattle.std.proofs.Common.{◌≤◌, ◌-◌, drop, length}
use Rattle.auction_reading.specs.inner.Said.{HasRead, read_by}
use Rattle.auction_reading.proofs.plain_text.read_plain.Given as goal

abbrev pub invariant-loop-at : goal.invariant-loop-at
invariant-loop-at l = record { within : l.at ≤ length l.text; reads : HasRead (read_by l.fn.progress) l.text (read_by l.progress) (drop l.at l.text) }

abbrev pub decreases-loop-at : goal.decreases-loop-at
decreases-loop-at l = length l.text - l.at
