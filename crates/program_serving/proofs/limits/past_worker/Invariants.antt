use Rattle.std.proofs.Common.{ℕ, ◌≡◌, ◌<◌, ◌≤◌, IfNone, IfSome}
use Rattle.auction_run.specs.GoingOn.{IsShortOn}
use Rattle.closing_laws.specs.Standing.{counters_at, stores}
use Rattle.run_laws.specs.Serving.{script_of}
use Rattle.shard_boxes.specs.declared.limits.TheConstants.{MOST_COMMITS}
use Rattle.program_serving.specs.inner.Parts.{AreWithinLimit, IsPastOn}
use Rattle.program_serving.proofs.limits.past_worker.Given as goal

abbrev pub invariant-loop-worker : goal.invariant-loop-worker
invariant-loop-worker l = record {
  none : IfNone l.past (AreWithinLimit l.auction → (w : ℕ) → w < l.worker → IsShortOn l.auction w (script_of l.scripts w));
  some : IfSome l.past (IsPastOn l.auction l.scripts);
  within : l.auction.limit ≡ MOST_COMMITS → (w : ℕ) → w < l.worker → stores (counters_at l.auction.counters w) ≤ l.auction.limit;
}
