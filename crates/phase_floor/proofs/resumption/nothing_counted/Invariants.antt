use Rattle.std.proofs.Common.{◌≡◌, replicate}
use Rattle.phase_transactions.specs.Workers.{no_counters}
use Rattle.phase_floor.proofs.resumption.nothing_counted.Given as goal

abbrev pub invariant-loop-made : goal.invariant-loop-made
invariant-loop-made l = l.counters.items ≡ replicate l._made no_counters
