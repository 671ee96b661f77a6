-- What the workers of a phase are given, and what they can do with it.
use Rattle.std.specs.List.{AllByRecursion, AllZip}
use Rattle.std.specs.Prelude.{ℕ, ◌≡◌, ◌<◌, Bool, List, length, slice_index}
use Rattle.auction_rows.specs.declared.{limits.Policy.Policy, requests.Object.Object, requests.Request.Request, rows.Entry.Entry}
use Rattle.shard_boxes.specs.States.{ShardState}
use Rattle.phase_transactions.specs.{Performing.{HaveOpening}, Workers.{WorkerState}}
use Rattle.worker_slices.specs.{Slicing.{hot_objects}, Stashes.{StashState}}
use Rattle.phase_floor.specs.Closings.{AreOfScripts, AreReceiptsOf, Leaves}
use Rattle.phase_floor.specs.{Floors.{FloorState, AreBegun, stash_at}, States.{JoinedState}}
use Rattle.phase_workers.specs.{Tasks.{Task, tasks, CanBeDone, HasDoneTask, IsReceiptFor}, Working.{ArePermitsOf}}
use Rattle.run_laws.specs.Serving.{script_of}
use Rattle.run_phases.specs.inner.Plans.{waiting_in, quota_of}

-- The next phase of a state has begun, with these hot objects: each worker's permit is a new one,
-- for its quota, with what waits in its stash.
pub record HasBegunPhase (policy : Policy) (scripts : List (List Request)) (state : JoinedState)
    (stashes : List StashState) (hot : List Object) (floor : FloorState)
    (permits : List WorkerState) : Type 0 where
  pub opening_is : floor.opening ≡ state.opening
  pub limit_is : floor.limit ≡ state.limit
  pub phase_is : floor.phase ≡ state.phase
  pub counters_are : floor.counters ≡ state.counters
  pub hot_are : hot_objects floor.stocks ≡ hot
  pub quotas : List ℕ
  pub quotas_are : (worker : ℕ) → worker < length scripts →
      slice_index quotas worker ≡ quota_of policy state.phase (script_of scripts worker)
  pub handed : List StashState
  pub handed_are : (worker : ℕ) → (stash_at handed worker).requests ≡ waiting_in stashes worker
  pub new : AreBegun floor quotas handed permits

-- The workers of a phase that has begun can perform their parts of these scripts, from the index
-- `first` on.
pub record CanPerform (takes : Bool) (initial : List ShardState) (floor : FloorState)
    (permits : List WorkerState) (scripts : List (List Request)) (phase first : ℕ) : Type 0 where
  -- for each script there are a permit and counters
  pub permits_are : length permits ≡ length scripts
  pub counters_are : length floor.counters ≡ length scripts
  -- each permit is of the phase, and of its worker
  pub of : ArePermitsOf phase 0 permits
  -- each worker can do its task
  pub can : HaveOpening initial floor.opening →
      AllByRecursion (CanBeDone initial floor.boxes) (tasks permits scripts first)
  -- the receipts of their permits are those of the phase
  pub receipts_are : (receipts : List WorkerState) →
      AllZip IsReceiptFor (tasks permits scripts first) receipts → AreReceiptsOf floor receipts
  -- when all have done theirs, the requests of the entries are the scripts'
  pub asked : (receipts : List WorkerState) →
      AllZip (HasDoneTask takes) (tasks permits scripts first) receipts →
      AreOfScripts scripts receipts

-- The workers of a phase have done these tasks, and it has closed with these entries: it leaves
-- this state and these stashes.
pub record HasEnded (takes : Bool) (initial : List ShardState) (floor : FloorState)
    (given : List Task) (entries : List Entry) (state : JoinedState) (stashes : List StashState)
    : Type 0 where
  pub receipts : List WorkerState
  pub done : AllZip (HasDoneTask takes) given receipts
  pub leaves : Leaves initial floor receipts entries state stashes
