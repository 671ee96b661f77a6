use Rattle.std.proofs.Common.{◌≡◌, map, take}
use Rattle.phase_floor.specs.Begins.{empty_stash}
use Rattle.phase_floor.proofs.start.new_stashes.Given as goal

abbrev pub invariant-loop-quota : goal.invariant-loop-quota
invariant-loop-quota l = l.stashes.items ≡ map empty_stash (take l.quota-index l.quotas)
