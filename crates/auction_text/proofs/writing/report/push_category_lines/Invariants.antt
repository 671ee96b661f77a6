use Rattle.std.proofs.Common.{◌≡◌, ◌++◌, take}
use Rattle.auction_text.specs.Report.{category_line, numbered_lines}
use Rattle.auction_text.proofs.writing.report.push_category_lines.Given as goal

abbrev pub invariant-loop-category : goal.invariant-loop-category
invariant-loop-category l = l.text.items ≡ l.fn.text.items ++ numbered_lines category_line 0 (take l.category l.categories)
