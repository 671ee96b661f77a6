use Rattle.std.{proofs.Common.{◌≡◌, ◌+◌, ◌*◌, [], ℕ, length, take}, specs.List.{AllByRecursion}}
use Rattle.split_engine.specs.{Serving.{lists}, declared.few.TheConstants.{MOST_KEYS}}
use Rattle.application_check.specs.{Checking.{LinesReplay, after_lines}, inner.Marking.{AreMarks}}
use Rattle.application_check.proofs.referee.check_history.Given as goal

abbrev pub invariant-loop-place : goal.invariant-loop-place
invariant-loop-place g l = record {
  replays : LinesReplay g.A.Application.rules (lists l.scripts) [] l.fn.table.items (take l.place l.lines);
  marks : AreMarks (lists l.scripts) (take l.place l.lines) (lists l.marks.items);
  table : l.table.items ≡ after_lines g.A.Application.rules (lists l.scripts) l.fn.table.items (take l.place l.lines);
  size : length l.table.items ≡ length l.fn.table.items;
  fits : (n : ℕ) → AllByRecursion (g.A.Application.fits n) l.fn.table.items → AllByRecursion (g.A.Application.fits (n + MOST_KEYS * l.place)) l.table.items;
}
