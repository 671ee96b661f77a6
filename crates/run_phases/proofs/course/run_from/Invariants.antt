use Rattle.std.proofs.Common.{◌≡◌, List}
use Rattle.auction_rows.specs.{Book.{Book}, declared.rows.Row.{Row}}
use Rattle.phase_boards.specs.Boards.{book_of}
use Rattle.run_phases.specs.{Beginning.{BeginsWith}, Boards.{HasShownAfter}, inner.Plans.{AreAsked}}
use Rattle.run_phases.specs.inner.Running.{IsRunning}
use Rattle.run_phases.proofs.course.run_from.Given as goal

abbrev pub invariant-loop-phase : goal.invariant-loop-phase
invariant-loop-phase g l = record {
  limit : l.running.state.limit ≡ l.fn.state.limit;
  running : (rows : Book) → BeginsWith l.fn.state rows l.work.policy l.work.scripts.now → IsRunning l.fn.state.opening rows l.work.policy l.work.scripts.now l._phase l.running;
  asked : AreAsked l.work.scripts.now l.running.stashes.items;
  shown : (rows : Book) (before : List (List Row)) → BeginsWith l.fn.state (book_of rows before) l.work.policy l.work.scripts.now → g.B.Board.has l.fn.board l.fn.state.opening rows before →
      HasShownAfter g.B.Board.has l.fn.state.opening rows before l._phase l.running.history.entries l.board;
}
