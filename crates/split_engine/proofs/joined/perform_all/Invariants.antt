use Rattle.std.proofs.Common.{◌≡◌, ◌++◌, ℕ, ◌+◌, ◌*◌, List, length, take}
use Rattle.std.specs.List.{AllByRecursion}
use Rattle.split_engine.specs.declared.{entry.Entry.{Entry}, few.TheConstants.{MOST_KEYS}}
use Rattle.split_engine.specs.inner.Phases.{HasPerformed}
use Rattle.split_engine.proofs.joined.perform_all.Given as goal

abbrev pub invariant-loop-call : goal.invariant-loop-call
invariant-loop-call g l = record {
  more : List (Entry g.row.A-Request.Denot g.row.A-Reply.Denot);
  history_is : l.so_far.history ≡ l.fn.so_far.history ++ more;
  performed : HasPerformed g.A.Application.rules l.worker (take l.call-index l.calls) l.fn.so_far.table.items l.so_far.table.items more;
  same : length l.so_far.table.items ≡ length l.fn.so_far.table.items;
  fits : (n : ℕ) → AllByRecursion (g.A.Application.fits n) l.fn.so_far.table.items → AllByRecursion (g.A.Application.fits (n + MOST_KEYS * l.call-index)) l.so_far.table.items;
}
