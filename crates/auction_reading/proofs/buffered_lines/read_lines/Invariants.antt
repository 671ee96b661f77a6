use Rattle.std.proofs.Common.{◌≡◌, ◌≤◌, ◌++◌, ℕ, List, Some, take, length, vec_len}
use Rattle.record_reading.specs.declared.inputs.TheConstants.{MOST_RECORDS}
use Rattle.auction_reading.specs.inner.Said.{HasRead, read_by}
use Rattle.auction_reading.proofs.buffered_lines.read_lines.Given as goal

abbrev pub invariant-loop : goal.invariant-loop
invariant-loop g l = record {
  within : l.filled ≤ length l.buffer;
  workers : vec_len l.progress.input.scripts ≡ vec_len l.fn.progress.input.scripts;
  room : l.progress.count ≤ MOST_RECORDS;
  reads : (all : List ℕ) → g.R.Read.remaining l.fn.reader ≡ Some all
      → (left : List ℕ) × (g.R.Read.remaining l.reader ≡ Some left) × HasRead (read_by l.fn.progress) all (read_by l.progress) (take l.filled l.buffer ++ left);
}
