-- When a phase begins, and when it does not.
use Rattle.std.specs.Global.{Vec}
use Rattle.std.specs.Prelude.{◌≡◌, ◌+◌, ◌<◌, ◌^◌, ◌↔◌, ℕ, List, [], length, map, slice_index}
use Rattle.auction_rows.specs.declared.requests.Object.{Object}
use Rattle.shard_boxes.specs.States.{ShardState}
use Rattle.worker_slices.specs.{Slicing.{hot_objects}, Stashes.{StashState}}
use Rattle.worker_slices.specs.declared.counters.Counters.{Counters}
use Rattle.phase_transactions.specs.Workers.{WorkerState}
use Rattle.closing_laws.specs.Standing.{counters_at}
use Rattle.phase_floor.specs.Floors.{FloorState, AreBegun, stash_at}
use Rattle.phase_floor.specs.States.{JoinedState, DoAllExist, states_of}
use Rattle.phase_floor.specs.declared.floor.BeginFault.{BeginFault}
use Rattle.phase_floor.specs.declared.floor.BeginFault.TheVariants.{UnknownHot, TooLong}

-- what a worker has committed, what waits, and its quota
abbrev pub asked_in_all : List Counters → List StashState → List ℕ → ℕ → ℕ
asked_in_all counters stashes quotas w =
    (counters_at counters w).commits + length (stash_at stashes w).requests + slice_index quotas w

-- what some worker has committed, what waits and its quota are more than the limit together
abbrev pub IsTooLong : ℕ → List Counters → List StashState → List ℕ → Type 0
IsTooLong limit counters stashes quotas =
    (w : ℕ) × (w < length counters) × (limit < asked_in_all counters stashes quotas w)

-- an empty stash with room for a quota
abbrev pub empty_stash : ℕ → StashState
empty_stash quota = record { requests = []; done = []; room = quota }

-- ---- what is asked for

-- A phase of these shards and so many workers can begin with this state and these quotas.
pub record CanBegin (initial : List ShardState) (count : ℕ) (state : JoinedState)
    (given : List ℕ) : Type 0 where
  -- they are the state's shards
  pub shards : states_of state ≡ initial
  -- and its workers
  pub workers : length state.counters ≡ count
  -- there is a quota for each worker
  pub quotas : length given ≡ count
  -- the phase's number is below 2^64 - 1
  pub phase : state.phase + 1 < 2 ^ 64

-- ---- what is open then

-- A phase is open that goes on from this state: its workers begin with these permits.
pub record OpensPhase (state : JoinedState) (given : List ℕ) (waiting : List StashState)
    (floor : FloorState) (begun : List WorkerState) : Type 0 where
  -- it is of the state's users and categories
  pub opening : floor.opening ≡ state.opening
  -- its workers may commit as much
  pub limit : floor.limit ≡ state.limit
  -- its number is the state's
  pub phase : floor.phase ≡ state.phase
  -- each worker begins with the state's counters
  pub counters : floor.counters ≡ state.counters
  -- each worker has a new permit for its quota, with its stash
  pub permits : AreBegun floor given waiting begun

-- A joined phase is open.
pub record OpensJoined (state : JoinedState) (given : List ℕ) (waiting : List StashState)
    (floor : FloorState) (begun : List WorkerState) : Type 0 where
  -- it goes on from the state, and each worker has its stash and its quota
  pub opens : OpensPhase state given waiting floor begun
  -- nothing is hot
  pub cold : floor.stocks ≡ []
  -- no worker has more commits, stashed and given requests together than the limit
  pub fits : ¬ IsTooLong state.limit state.counters waiting given

-- A split phase is open, in which these objects are hot.
pub record OpensSplit (state : JoinedState) (given : List ℕ) (objects : List Object)
    (floor : FloorState) (begun : List WorkerState) : Type 0 where
  -- it goes on from the state, and each worker has an empty stash and its quota
  pub opens : OpensPhase state given (map empty_stash given) floor begun
  -- these objects are hot
  pub hot : hot_objects floor.stocks ≡ objects
  -- they exist
  pub known : DoAllExist state.opening (states_of state) objects
  -- no worker has more commits and given requests together than the limit
  pub fits : ¬ IsTooLong state.limit state.counters [] given

-- ---- what comes back otherwise

-- A joined phase does not begin with this state, these stashes and quotas, for this fault.
pub record HasRefusedJoined (old : JoinedState) (held : Vec StashState) (given : List ℕ)
    (back : JoinedState) (kept : Vec StashState) (fault : BeginFault) : Type 0 where
  -- the state comes back as it was
  pub state : back ≡ old
  -- so do the stashes
  pub stashes : kept ≡ held
  -- TooLong is told exactly where some worker would have more than the limit
  pub too_long : (fault ≡ TooLong) ↔ IsTooLong old.limit old.counters held.items given
  -- UnknownHot is never told
  pub known : ¬ (fault ≡ UnknownHot)

-- A split phase does not begin with this state, these quotas and hot objects, for this fault.
pub record HasRefusedSplit (old : JoinedState) (given : List ℕ) (objects : List Object)
    (back : JoinedState) (fault : BeginFault) : Type 0 where
  -- the state comes back as it was
  pub state : back ≡ old
  -- UnknownHot is told exactly where a hot object does not exist
  pub unknown : (fault ≡ UnknownHot) ↔ ¬ DoAllExist old.opening (states_of old) objects
  -- TooLong is told exactly where all exist and some worker would have more than the limit
  pub too_long : (fault ≡ TooLong)
      ↔ (DoAllExist old.opening (states_of old) objects × IsTooLong old.limit old.counters [] given)
