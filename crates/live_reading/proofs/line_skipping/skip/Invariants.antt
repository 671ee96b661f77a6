use Rattle.std.proofs.Common.{◌≡◌, ℕ, List, Some}
use Rattle.live_reading.{proofs.SkippingLemmas.{IsPassing}, specs.LineBuffers.{lines_left}}
use Rattle.live_reading.proofs.line_skipping.skip.Given as goal

abbrev pub invariant-loop : goal.invariant-loop
invariant-loop g l = record {
  passing : (bytes : List ℕ) → lines_left g.R.Read.remaining l.fn.lines ≡ Some bytes → IsPassing g.R.Read.remaining l.front bytes l.lines;
}
