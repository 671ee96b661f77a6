use Rattle.std.proofs.Common.{◌≡◌, ◌++◌, ◌+◌, ◌*◌, ℕ, List, Some, length}
use Rattle.std.specs.List.{AllByRecursion}
use Rattle.split_engine.specs.declared.few.TheConstants.{MOST_KEYS}
use Rattle.application_log.specs.Logs.{log_text, HasOpened}
use Rattle.application_log.proofs.opening.open_log.Given as goal

abbrev pub invariant-loop-number : goal.invariant-loop-number
invariant-loop-number g l = record {
  requests : List g.row.A-Request.Denot;
  has : HasOpened g.A.Application.rules g.A.Loggable.line g.A.Loggable.is_in_range l.fn.table.items requests l.opened.table.items l.opened.lines l.opened.kept;
  count : l.opened.lines ≡ l._number;
  left : (all : List ℕ) → g.R.Read.remaining l.fn.reader ≡ Some all →
      (rest : List ℕ) × (g.R.Read.remaining l.reader ≡ Some rest) × (all ≡ log_text g.A.Loggable.line requests ++ rest);
  fits : (n : ℕ) → AllByRecursion (g.A.Application.fits n) l.fn.table.items → AllByRecursion (g.A.Application.fits (n + MOST_KEYS * l.opened.lines)) l.opened.table.items;
  len : length l.opened.table.items ≡ length l.fn.table.items;
}
