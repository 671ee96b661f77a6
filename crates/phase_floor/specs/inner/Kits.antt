-- What the workers of a phase are given as it begins.
use Rattle.std.specs.Prelude.{◌≡◌, ◌+◌, ◌<◌, ℕ, List, [], length, slice_index, slice_index_or}
use Rattle.worker_journals.specs.Journals.{empty_journal}
use Rattle.worker_slices.specs.{Slicing.{slices_of}, Stashes.{StashState}}
use Rattle.phase_transactions.specs.Workers.{HasStashRoom}
use Rattle.phase_floor.specs.{Begins.{IsTooLong}, Floors.{Stocks, AreStocksOf, stash_at}}
use Rattle.phase_floor.specs.{States.{JoinedState, states_of}, declared.start.Kit.{Kit}}

-- each worker's stash has room for its quota, where something is hot
abbrev pub HaveStashRoom : Stocks → List StashState → List ℕ → Type 0
HaveStashRoom stocks stashes quotas = (w : ℕ) → w < length quotas →
    HasStashRoom (slices_of stocks []) (slice_index quotas w) (stash_at stashes w).room

-- The workers of this state can be given these hot objects, stashes and quotas.
pub record CanBeGiven (state : JoinedState) (hot : Stocks) (waiting : List StashState)
    (given : List ℕ) : Type 0 where
  -- what is fixed of the hot objects is what the shards show
  pub stocks : AreStocksOf state.opening (states_of state) hot
  -- no worker has more commits than the limit then
  pub fits : ¬ IsTooLong state.limit state.counters waiting given
  -- each stash has room for what is put off
  pub rooms : HaveStashRoom hot waiting given

-- what a worker gets in a phase: an empty journal with room for what waits and for its quota, and
-- a slice of each hot object to which nothing is applied
pub record IsKit (phase : ℕ) (stocks : Stocks) (worker room : ℕ) (kit : Kit) : Type 0 where
  pub journal : kit.journal ≡ empty_journal phase worker room
  pub slices : kit.slices ≡ slices_of stocks []

-- the first so many workers' kits, in order
abbrev pub AreKits : ℕ → Stocks → List StashState → List ℕ → ℕ → List Kit → Type 0
AreKits phase stocks stashes quotas count kits = (w : ℕ) (d : Kit) → w < count →
    IsKit phase stocks w (length (stash_at stashes w).requests + slice_index quotas w)
    (slice_index_or kits w d)
