use Rattle.std.{proofs.Common.{◌≡◌, ◌++◌}, specs.Vec.Iter.{into_iter_items}}
use Rattle.run_laws.specs.Serving.{lists}
use Rattle.auction_run.proofs.scripts.VecVecRequestScripts.into_compact.Given as goal

-- the compact scripts, and the lists to come, are the scripts
abbrev pub invariant-loop-script : goal.invariant-loop-script
invariant-loop-script l = l.compact.items ++ lists (into_iter_items l.script-iterator) ≡ lists l.fn.self.items
