use Rattle.std.proofs.Common.{◌≡◌, ◌-◌, length, map, min, take}
use Rattle.run_phases.proofs.phase.worker_quotas.Given as goal

-- the first scripts have their quotas
abbrev pub invariant-loop-script : goal.invariant-loop-script
invariant-loop-script l = l.quotas.items ≡ map (λ script. min l.quota (length script - l.first)) (take l.script-index l.scripts)
