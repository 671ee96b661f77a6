use Rattle.std.{proofs.Common.{◌≡◌, ◌++◌, ◌≤◌, length, take}, specs.List.{AllByRecursion}}
use Rattle.application_log.specs.Logs.{lines_of, log_text, requests_of}
use Rattle.application_log.proofs.commit_log.write_piece.Given as goal

abbrev pub invariant-loop-place : goal.invariant-loop-place
invariant-loop-place g l = record {
  text : l.buffer.items ≡ l.fn.buffer.items ++ log_text g.A.Loggable.line (requests_of (take l.place l.commits));
  in_range : AllByRecursion g.A.Loggable.is_in_range (requests_of (take l.place l.commits));
  count : l.lines ≡ length (lines_of g.A.Loggable.line (requests_of (take l.place l.commits)));
  few : l.lines ≤ l.place;
}
