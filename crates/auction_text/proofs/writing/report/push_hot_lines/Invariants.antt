use Rattle.std.proofs.Common.{◌≡◌, ◌++◌, map, take}
use Rattle.auction_text.specs.Report.{hot_line, numbered_lines}
use Rattle.auction_text.proofs.writing.report.push_hot_lines.Given as goal

abbrev pub invariant-loop-phase : goal.invariant-loop-phase
invariant-loop-phase l = l.text.items ≡ l.fn.text.items ++ numbered_lines hot_line 0 (map (λ set. set.keys) (take l.phase l.hot))
