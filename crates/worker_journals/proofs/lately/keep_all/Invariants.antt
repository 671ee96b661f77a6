use Rattle.std.proofs.Common.{◌≡◌, ◌++◌, take, vec_capacity}
use Rattle.worker_journals.proofs.lately.keep_all.Given as goal

abbrev pub invariant-loop-place : goal.invariant-loop-place
invariant-loop-place g l = record {
  items : l.list.items ≡ l.fn.list.items ++ take l.place l.shown;
  capacity : vec_capacity l.list ≡ vec_capacity l.fn.list;
}
