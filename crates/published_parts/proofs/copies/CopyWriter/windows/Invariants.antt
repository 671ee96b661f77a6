use Rattle.std.proofs.Common.{◌≡◌, All, length}
use Rattle.published_parts.specs.Views.{IsMadeBy}
use Rattle.published_parts.proofs.copies.CopyWriter.windows.Given as goal

abbrev pub invariant-loop-window : goal.invariant-loop-window
invariant-loop-window g l = (length l.made.items ≡ l._window) × All (IsMadeBy g.F.Fn l.make) l.made.items
