use Rattle.std.proofs.Common.{◌≡◌, ℕ, ◌<◌, length, take, get_or}
use Rattle.hot_choice.specs.inner.{Ranking.{in_bucket}, Runs.{objects_of}}
use Rattle.hot_choice.proofs.choice.count_by_bucket.Given as goal

-- the objects of the runs so far are counted
abbrev pub invariant-loop-run : goal.invariant-loop-run
invariant-loop-run l = record {
  long : length l.counts ≡ 256;
  counted : (bucket : ℕ) → bucket < 256 → get_or l.counts bucket 0 ≡ in_bucket (objects_of (take l.run-index l.runs)) bucket;
}
