use Rattle.std.{proofs.Common.{◌≡◌, ◌<◌, ℕ, length}, specs.List.{AllByRecursion}}
use Rattle.split_engine.specs.{Rules.{most_before}, Serving.{lists}, inner.Phases.{IsRunState}}
use Rattle.split_engine.proofs.runs.run.Given as goal

abbrev pub invariant-loop-round : goal.invariant-loop-round
invariant-loop-round g l = record {
  state : (n : ℕ) → n < most_before → AllByRecursion (g.A.Application.fits n) l.fn.table.items →
      IsRunState g.A.Application.rules g.A.Application.fits n l.fn.table.items (lists l.scripts) l.state.so_far.table.items l.state.so_far.history l.state.cursors.items;
  hot : length l.phasing.hot.items ≡ length l.fn.table.items;
}
