use Rattle.std.proofs.Common.{◌≡◌, ◌≤◌, ◌-◌, ℕ, List, vec_len}
use Rattle.csv.specs.Reading.{strip_bom}
use Rattle.record_reading.specs.{Asking.{asked_of}, Reading.{IsPlain}}
use Rattle.record_reading.specs.declared.inputs.TheConstants.{MOST_RECORDS}
use Rattle.auction_reading.proofs.SoFar.{IsReading}
use Rattle.auction_reading.specs.inner.Progress.{IsAtStart, IsReadUpTo, unmarked}
use Rattle.auction_reading.proofs.scripts.read_all.Given as goal

abbrev pub invariant-loop-progress : goal.invariant-loop-progress
invariant-loop-progress g l = record {
  plain : IsPlain l.records;
  counts : vec_len l.progress.input.scripts ≡ l.workers;
  room : l.progress.count ≤ MOST_RECORDS;
  reads : (bytes left : List ℕ) → IsAtStart g.R.Read.remaining left l.fn.records → unmarked l.fn.progress.count left ≡ strip_bom left → IsReadUpTo l.workers bytes l.fn.progress left
      → IsReading g.R.Read.remaining l.workers bytes l.progress.count l.progress.begun l.records (asked_of l.progress.input);
}

abbrev pub decreases-loop-progress : goal.decreases-loop-progress
decreases-loop-progress g l = MOST_RECORDS - l.progress.count
