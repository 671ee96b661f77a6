use Rattle.std.proofs.Common.{◌≡◌, take}
use Rattle.request_scripts.proofs.script.Script.to_requests.Given as goal

-- the first requests are listed
abbrev pub invariant-loop-place : goal.invariant-loop-place
invariant-loop-place l = l.requests.items ≡ take l.place l.self
