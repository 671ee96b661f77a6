use Rattle.std.proofs.Common.{◌≡◌, ◌++◌, ◌≤◌, ◌+◌, ℕ, List, length}
use Rattle.split_engine.specs.{Serving.{calls_before}, inner.Phases.{HasPerformedOnSlices}}
use Rattle.split_engine.proofs.split.perform_quota.Given as goal

abbrev pub invariant-loop-index : goal.invariant-loop-index
invariant-loop-index g l = record {
  from : l.from ≤ l.index;
  few : length l.own.journal.items + l.from ≤ l.index;
  all : List (ℕ × g.row.A-Request.Denot);
  follows : calls_before l.script l.index ≡ calls_before l.script l.from ++ all;
  done : HasPerformedOnSlices g.A.Application.rules g.A.Application.is_small l.phase.plan.hot.now l.phase.table.now l.worker all
      l.own.journal.items l.own.slices l.fn.start.cursor.stash.items l.own.cursor.stash.items;
}
