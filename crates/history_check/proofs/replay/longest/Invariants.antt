use Rattle.std.proofs.Common.{ℕ, List, ◌<◌, ◌≤◌, length, get_or}
use Rattle.auction_rows.specs.declared.requests.Request.{Request}
use Rattle.history_check.proofs.replay.longest.Given as goal

abbrev pub invariant-loop-script : goal.invariant-loop-script
invariant-loop-script l = (w : ℕ) (d : List Request) → w < l.script-index → length (get_or l.scripts w d) ≤ l.most
