use Rattle.std.proofs.Common.{◌≡◌}
use Rattle.live_reading.specs.declared.line_taking.LineStop.TheVariants.{Full}
use Rattle.live_reading.specs.inner.Taking.{TakesFrom}
use Rattle.live_reading.proofs.line_taking.take_lines.Given as goal

abbrev pub invariant-loop : goal.invariant-loop
invariant-loop g l = record {
  takes : TakesFrom g.R.Read.remaining l.fn.lines l.fn.taken l.lines l.taken Full;
  none : l.taken.requests ≡ 0;
}
