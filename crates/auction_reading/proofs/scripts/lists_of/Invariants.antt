use Rattle.std.{proofs.Common.{◌≡◌, ◌++◌, map}, specs.Vec.Iter.{into_iter_items}}
use Rattle.auction_reading.proofs.scripts.lists_of.Given as goal

-- the lists so far, and the scripts to come, are the scripts
abbrev pub invariant-loop-script : goal.invariant-loop-script
invariant-loop-script l = map (λ requests. requests.items) l.lists.items ++ into_iter_items l.script-iterator ≡ l.fn.scripts.items
