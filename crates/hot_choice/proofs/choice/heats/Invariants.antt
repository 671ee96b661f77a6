use Rattle.std.proofs.Common.{take}
use Rattle.hot_choice.{proofs.HeatLemmas.{HasHeatsOf, may_be_hot}, specs.inner.Runs.{objects_of}}
use Rattle.hot_choice.proofs.choice.heats.Given as goal

-- each object that may be hot has its heat so far
abbrev pub invariant-loop-run : goal.invariant-loop-run
invariant-loop-run l = HasHeatsOf (may_be_hot l.counts l.threshold) (objects_of (take l.run-index l.runs)) l.heats.entries
