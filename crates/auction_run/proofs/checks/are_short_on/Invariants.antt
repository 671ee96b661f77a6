use Rattle.std.proofs.Common.{ℕ, ◌<◌}
use Rattle.run_laws.specs.Serving.{script_of}
use Rattle.auction_run.specs.GoingOn.{IsShortOn}
use Rattle.auction_run.proofs.checks.are_short_on.Given as goal

abbrev pub invariant-loop-worker : goal.invariant-loop-worker
invariant-loop-worker g l = (w : ℕ) → w < l.worker → IsShortOn l.state w (script_of (g.S.Scripts.asked l.scripts) w)
