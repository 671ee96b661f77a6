use Rattle.std.{proofs.Common.{◌≡◌, ℕ, ◌+◌, ◌*◌, take}, specs.List.{AllByRecursion}}
use Rattle.split_engine.specs.{Serial.{table_after}, declared.few.TheConstants.{MOST_KEYS}}
use Rattle.application_window.proofs.table_copy.perform_part.Given as goal

abbrev pub invariant-loop-commit : goal.invariant-loop-commit
invariant-loop-commit g l = record {
  table_is : l.table.items ≡ table_after g.A.Application.rules l.fn.table.items (take l.commit-index l.commits);
  fits : (n : ℕ) → AllByRecursion (g.A.Application.fits n) l.fn.table.items → AllByRecursion (g.A.Application.fits (n + MOST_KEYS * l.commit-index)) l.table.items;
}
