use Rattle.std.proofs.Common.{◌≡◌, take}
use Rattle.request_scripts.proofs.script.Script.of.Given as goal

-- the script has the first requests
abbrev pub invariant-loop-request : goal.invariant-loop-request
invariant-loop-request l = l.script ≡ take l.request-index l.requests
