use Rattle.worker_slices.proofs.slices.Slices.new.Goals as goal

pub filled-requires-clause-empty : goal.filled-requires-clause-empty
filled-requires-clause-empty c = c.in_ok-with_capacity.ensures.empty
