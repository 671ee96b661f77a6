use Rattle.std.proofs.Common.{◌≡◌, drop, take}
use Rattle.worker_journals.proofs.lately.all_lie_at.Given as goal

abbrev pub invariant-loop-place : goal.invariant-loop-place
invariant-loop-place g l = take l.place (drop l.start l.list) ≡ take l.place l.shown
