use Rattle.std.proofs.Common.{◌≡◌, ◌++◌, ◌≤◌, ℕ, List}
use Rattle.split_engine.specs.Serving.{calls_before}
use Rattle.split_engine.proofs.joined.stash_quota.Given as goal

abbrev pub invariant-loop-index : goal.invariant-loop-index
invariant-loop-index g l = record {
  from : l.from ≤ l.index;
  all : List (ℕ × g.row.A-Request.Denot);
  follows : calls_before l.script l.index ≡ calls_before l.script l.from ++ all;
  stash_is : l.cursor.stash.items ≡ l.fn.cursor.stash.items ++ all;
}
