use Rattle.std.proofs.Common.{◌≡◌, take, map, length}
use Rattle.worker_journals.specs.inner.Places.{first_number}
use Rattle.worker_journals.proofs.merge.Merging.of.Given as goal

abbrev pub invariant-loop-worker : goal.invariant-loop-worker
invariant-loop-worker l = record {
  numbers : take l.worker l.numbers ≡ map first_number (take l.worker l.journals);
  room : length l.numbers ≡ 16;
}
