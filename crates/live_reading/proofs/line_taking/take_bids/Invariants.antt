use Rattle.std.proofs.Common.{◌≡◌, ◌<◌, ◌≤◌, ◌-◌, drop, length, vec_len}
use Rattle.live_reading.specs.declared.line_taking.LineStop.TheVariants.{Full}
use Rattle.live_reading.specs.inner.Taking.{TakesText}
use Rattle.live_reading.proofs.line_taking.take_bids.Given as goal

abbrev pub invariant-loop-at : goal.invariant-loop-at
invariant-loop-at l = record {
  after : l.from ≤ l.at;
  within : l.from < l.at → l.at ≤ length l.text;
  takes : TakesText l.fn.taken (drop l.from l.text) l.taken Full (drop l.at l.text);
  rows : vec_len l.taken.input.rows ≡ vec_len l.fn.taken.input.rows;
  none : l.at ≤ l.from → l.taken ≡ l.fn.taken;
}

abbrev pub decreases-loop-at : goal.decreases-loop-at
decreases-loop-at l = length l.text - l.at
