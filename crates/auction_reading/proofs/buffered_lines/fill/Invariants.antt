use Rattle.std.proofs.Common.{◌≡◌, ◌≤◌, ◌++◌, ℕ, List, Some, length, take}
use Rattle.auction_reading.proofs.buffered_lines.fill.Given as goal

abbrev pub invariant-loop : goal.invariant-loop
invariant-loop g l = record {
  within : l.filled ≤ length l.buffer;
  more : l.held ≤ l.filled;
  reads : (all : List ℕ) → g.R.Read.remaining l.fn.reader ≡ Some all
      → (left : List ℕ) × (g.R.Read.remaining l.reader ≡ Some left) × (take l.held l.fn.buffer ++ all ≡ take l.filled l.buffer ++ left);
}
