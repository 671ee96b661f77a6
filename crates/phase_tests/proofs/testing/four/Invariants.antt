use Rattle.std.proofs.Common.{◌≡◌, ℕ, ◌<◌, map, vec_len}
use Rattle.shard_boxes.specs.States.{state_of, state_at, IsInitial}
use Rattle.test_values.specs.declared.requests.TheConstants.{OPENING}
use Rattle.phase_tests.proofs.testing.four.Given as goal

abbrev pub invariant-loop-number : goal.invariant-loop-number
invariant-loop-number l =
    (vec_len l.shards ≡ l.number)
    × ((s : ℕ) → s < l.number → IsInitial 4 s (state_at (map state_of l.shards.items) s))
    × ((s : ℕ) → s < l.number → (state_at (map state_of l.shards.items) s).opening ≡ OPENING)
