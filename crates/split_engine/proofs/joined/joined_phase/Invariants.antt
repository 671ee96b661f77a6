use Rattle.std.{proofs.Common.{◌<◌, ◌≤◌, ℕ, List, length, take}, specs.List.{AllByRecursion}}
use Rattle.split_engine.specs.{Rules.{most_before, most_acts}, Serving.{lists, IsScript}}
use Rattle.split_engine.specs.inner.Phases.{IsRunState, AllFinished}
use Rattle.split_engine.proofs.joined.joined_phase.Given as goal

abbrev pub invariant-loop-worker : goal.invariant-loop-worker
invariant-loop-worker g l = record {
  ends : most_acts ≤ l.quota → AllFinished (take l.worker (lists l.scripts)) (take l.worker l.state.cursors.items);
  state : (n : ℕ) (opened : List g.row.A-Record.Denot) → n < most_before →
      AllByRecursion (IsScript g.A.Application.rules (length opened)) (lists l.scripts) →
      IsRunState g.A.Application.rules g.A.Application.fits n opened (lists l.scripts) l.fn.state.so_far.table.items l.fn.state.so_far.history l.fn.state.cursors.items →
      IsRunState g.A.Application.rules g.A.Application.fits n opened (lists l.scripts) l.state.so_far.table.items l.state.so_far.history l.state.cursors.items;
}
