use Rattle.std.proofs.Common.{◌≡◌, ◌≤◌, ◌+◌, ◌-◌, ◌++◌, length, map, take, vec_len}
use Rattle.std.specs.Prelude.{vec_capacity}
use Rattle.request_scripts.specs.inner.Shifting.{shifted}
use Rattle.request_scripts.proofs.script.push_after.Given as goal

abbrev pub invariant-loop-short : goal.invariant-loop-short
invariant-loop-short l = record {
  room : vec_len l.requests + (length l.others - l.short-index) ≤ vec_capacity l.requests;
  pushed : l.requests.items ≡ l.fn.requests.items ++ map (shifted l.before) (take l.short-index l.others);
}
