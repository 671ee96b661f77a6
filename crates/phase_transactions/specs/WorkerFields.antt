-- What the fields of a worker show.
use Rattle.std.specs.Prelude.{◌≡◌, ℕ, ◌<◌}
use Rattle.phase_transactions.specs.Workers.{WorkerState, IsLawfulWorker}
use Rattle.phase_transactions.specs.declared.worker.Worker.TheInside.{Inside}

-- the worker with these fields
abbrev pub state_in : {N : Type 0} → Inside N → WorkerState
state_in w = record {
  key = w.key;
  opening = w.opening;
  begun = w.begun;
  counters = w.counters;
  journal = w.journal;
  stash = w.stash;
  slices = w.slices;
  left = w.left;
  tries = w.tries;
  clock = w.clock;
}

-- The worker with these fields is lawful, in a phase with so many shards.
pub record AreLawful {N : Type 0} (shards : ℕ) (w : Inside N) : Type 0 where
  pub lawful : IsLawfulWorker (state_in w)
  -- its number is that of its journal
  pub worker_is : w.worker ≡ w.journal.worker
  -- it knows how many shards there are
  pub shards_is : w.shards ≡ shards
  -- there is at least one
  pub some : 0 < shards
