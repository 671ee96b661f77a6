use Rattle.std.proofs.Common.{◌≡◌, ◌++◌, take}
use Rattle.auction_text.specs.Report.{numbered_lines, user_line}
use Rattle.auction_text.proofs.writing.report.push_user_lines.Given as goal

abbrev pub invariant-loop-user : goal.invariant-loop-user
invariant-loop-user l = l.text.items ≡ l.fn.text.items ++ numbered_lines user_line 0 (take l.user l.users)
