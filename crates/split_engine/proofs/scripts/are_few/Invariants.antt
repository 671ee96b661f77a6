use Rattle.std.proofs.Common.{◌≡◌, ◌+◌, length, take}
use Rattle.split_engine.specs.{Serving.{lists, total}, declared.state.TheConstants.{MOST_COMMITS}}
use Rattle.split_engine.proofs.scripts.are_few.Given as goal

abbrev pub invariant-loop-script : goal.invariant-loop-script
invariant-loop-script g l = l.left + length l.scripts + total (take l.script-index (lists l.scripts)) ≡ MOST_COMMITS
