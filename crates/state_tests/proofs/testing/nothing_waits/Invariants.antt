use Rattle.std.proofs.Common.{◌≡◌, vec_len}
use Rattle.state_tests.proofs.testing.nothing_waits.Given as goal

abbrev pub invariant-loop-worker : goal.invariant-loop-worker
invariant-loop-worker l = vec_len l.stashes ≡ l._worker
