use Rattle.std.proofs.lemmas.List.{nil_from_length}
use Rattle.worker_slices.proofs.slices.Slices.renewed.Goals as goal

pub filled-requires-clause-empty : goal.filled-requires-clause-empty
filled-requires-clause-empty c = nil_from_length _ (c.is_empty.ensures.0 c.if-is_empty.true)
