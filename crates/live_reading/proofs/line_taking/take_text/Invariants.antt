use Rattle.std.proofs.Common.{◌≤◌, ◌-◌, drop, length}
use Rattle.live_reading.specs.declared.line_taking.LineStop.TheVariants.{Full}
use Rattle.live_reading.specs.inner.Taking.{TakesText}
use Rattle.live_reading.proofs.line_taking.take_text.Given as goal

abbrev pub invariant-loop-taken : goal.invariant-loop-taken
invariant-loop-taken l = record {
  within : l.at ≤ length l.text;
  takes : TakesText l.fn.taken l.text l.taken Full (drop l.at l.text);
}

abbrev pub decreases-loop-taken : goal.decreases-loop-taken
decreases-loop-taken l = length l.text - l.at
