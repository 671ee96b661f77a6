-- What the next phase of a run is given, and when a run may perform it.
use Rattle.std.specs.List.{AllByRecursion}
use Rattle.std.specs.Prelude.{ℕ, ◌≡◌, ◌+◌, ◌<◌, ◌≤◌, ◌^◌, ◌⊎◌, true, false, List, [], Some, length, slice_get}
use Rattle.auction_rows.specs.declared.limits.TheConstants.{MOST_OF_A_WORKER}
use Rattle.auction_rows.specs.declared.{limits.Policy.Policy, requests.Object.Object, requests.Request.Request}
use Rattle.worker_slices.specs.Stashes.{StashState}
use Rattle.closing_laws.specs.Standing.{counters_at}
use Rattle.phase_floor.specs.{Floors.{stash_at}, States.{JoinedState, states_of, DoAllExist}}
use Rattle.run_laws.specs.{Phases.{is_split, quota}, Run.{first_index}, Serving.{script_of}}
use Rattle.run_phases.specs.declared.plan.PhasePlan.{PhasePlan}

-- the calls that wait in a worker's stash
abbrev pub waiting_in : List StashState → ℕ → List (ℕ × Request)
waiting_in stashes worker = (stash_at stashes worker).requests

-- a call is one of a script: its request is the one at its index
abbrev pub IsCallOf : List Request → ℕ × Request → Type 0
IsCallOf script call = slice_get script call.0 ≡ Some call.1

-- the calls that wait in each worker's stash are of its script
abbrev pub AreAsked : List (List Request) → List StashState → Type 0
AreAsked scripts stashes = (worker : ℕ) →
    AllByRecursion (IsCallOf (script_of scripts worker)) (waiting_in stashes worker)

-- from this index on a worker has a request of its script left, or calls in its stash
abbrev pub IsSomeLeft : List (List Request) → List StashState → ℕ → Type 0
IsSomeLeft scripts stashes first = (worker : ℕ) ×
    ((first < length (script_of scripts worker)) ⊎ (0 < length (waiting_in stashes worker)))

-- and none has
abbrev pub IsNoneLeft : List (List Request) → List StashState → ℕ → Type 0
IsNoneLeft scripts stashes first = (worker : ℕ) →
    (length (script_of scripts worker) ≤ first) × (length (waiting_in stashes worker) ≡ 0)

-- how many requests of its script a phase gives a worker
abbrev pub quota_of : Policy → ℕ → List Request → ℕ
quota_of policy phase script = quota policy.joined_quota policy.split_quota phase (length script)

-- the plan's round is that of the phase, and goes on with each script at the first index that
-- reaches it
abbrev pub IsPlanOf : {G : Type 0} → PhasePlan G → ℕ → Type 0
IsPlanOf plan phase =
    (plan.round.phase ≡ phase) × (plan.round.first ≡ first_index plan.policy phase)

-- A run may perform the next phase of a state.
pub record MayPerform (policy : Policy) (scripts : List (List Request)) (state : JoinedState)
    (stashes : List StashState) (hot : List Object) : Type 0 where
  pub counted : state.phase + 1 < 2 ^ 64
  -- there are a script and a stash for each worker, and the policy's shards
  pub scripts_are : length scripts ≡ length state.counters
  pub stashes_are : length stashes ≡ length state.counters
  pub shards_are : length state.shards ≡ policy.shards
  pub short : (worker : ℕ) → length (script_of scripts worker) ≤ MOST_OF_A_WORKER
  -- what waits is of the scripts, and no more than a script has
  pub asked : AreAsked scripts stashes
  pub waits : (worker : ℕ) → length (waiting_in stashes worker) ≤ MOST_OF_A_WORKER
  -- what a worker committed, what waits and its quota are no more than the limit
  pub room : (worker : ℕ) → worker < length state.counters →
      (counters_at state.counters worker).commits + length (waiting_in stashes worker)
      + quota_of policy state.phase (script_of scripts worker) ≤ state.limit
  -- nothing is hot in a joined phase, and what is hot in a split one is there
  pub joined : is_split state.phase ≡ false → hot ≡ []
  pub exist : DoAllExist state.opening (states_of state) hot
  -- nothing waits in a split phase
  pub split : is_split state.phase ≡ true → (worker : ℕ) → waiting_in stashes worker ≡ []
