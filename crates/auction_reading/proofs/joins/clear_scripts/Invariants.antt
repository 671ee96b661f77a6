use Rattle.std.proofs.Common.{◌≡◌, ◌≤◌, [], length, replicate, take}
use Rattle.auction_reading.proofs.joins.clear_scripts.Given as goal

abbrev pub invariant-loop-script : goal.invariant-loop-script
invariant-loop-script l = record {
  within : l.script-index ≤ length l.scripts;
  done : take l.script-index l.scripts ≡ replicate l.script-index [];
}
