-- What the workers of a phase have to do, and what they have done.
use Rattle.std.specs.Prelude.{◌≡◌, ℕ, ◌+◌, ◌-◌, ◌≤◌, ◌⊎◌, Bool, List, [], ◌∷◌, ◌++◌, length}
use Rattle.auction_rows.specs.declared.limits.TheConstants.{MOST_TRIES, MOST_OF_A_WORKER}
use Rattle.auction_rows.specs.declared.requests.Request.{Request}
use Rattle.shard_boxes.specs.{Keys.{BoxId}, States.{ShardState}}
use Rattle.phase_transactions.specs.{Performing.{HaveOpening}, Workers.{WorkerState}}
use Rattle.phase_transactions.specs.declared.fault.PermitFault.{PermitFault}
use Rattle.phase_workers.specs.Working.{calls_from, committed, stashed, taken, still_waiting, hot_for, put_off, not_put_off, IsSamePermit, HasStopped}

-- a worker's permit as the phase begins, its script, and the index from which on it is given
-- requests
pub record Task : Type 0 where
  pub permit : WorkerState
  pub script : List Request
  pub first : ℕ

abbrev pub task : WorkerState → List Request → ℕ → Task
task permit script first = record { permit = permit; script = script; first = first }

-- each worker's task, in order
abbrev pub tasks : List WorkerState → List (List Request) → ℕ → List Task
tasks [] scripts first = []
tasks (permit ∷ permits) [] first = []
tasks (permit ∷ permits) (script ∷ scripts) first =
    task permit script first ∷ tasks permits scripts first

-- the calls that the worker is given
abbrev pub calls_for : Task → List (ℕ × Request)
calls_for t = calls_from t.first t.permit.left t.script

-- a task can be done in a phase that began with these shards, with these boxes
pub record CanBeDone (initial : List ShardState) (boxes : List BoxId) (t : Task) : Type 0 where
  -- its permit is to these boxes
  pub boxes_are : t.permit.key.boxes ≡ boxes
  -- and of the same auction
  pub opening_is : HaveOpening initial t.permit.opening
  -- its script is short
  pub short : length t.script ≤ MOST_OF_A_WORKER
  -- what it is given stands in the script
  pub given : t.permit.left ≤ length t.script - t.first
  -- its tries suffice
  pub tries : t.permit.tries + length (stashed t.permit) + t.permit.left ≤ MOST_TRIES

-- what it has to do: the calls that are taken of its stash, and then those that it is given
abbrev pub to_do : Bool → Task → List (ℕ × Request)
to_do takes t = taken takes t.permit ++ calls_for t

-- A task was done: of what it had to do, what is not put off is committed, in this order, and what
-- is put off waits behind what was not taken.
pub record HasDoneTask (takes : Bool) (t : Task) (receipt : WorkerState) : Type 0 where
  pub same : IsSamePermit t.permit receipt
  pub calls : committed receipt
      ≡ committed t.permit ++ not_put_off (hot_for t.permit) (to_do takes t)
  pub stash : stashed receipt ≡ still_waiting takes t.permit
      ++ put_off (hot_for t.permit) (to_do takes t)

-- a task was not done: it stopped at a call of these, by this fault
abbrev pub HasMetFault : Bool → List ShardState → Task → WorkerState → PermitFault → Type 0
HasMetFault takes initial t = HasStopped takes initial (to_do takes t) t.permit

-- the receipt is of the task's permit
abbrev pub IsReceiptFor : Task → WorkerState → Type 0
IsReceiptFor t receipt = IsSamePermit t.permit receipt

-- the first task that was not done met this fault
abbrev pub IsFirstFault : Bool → List ShardState → List Task → List WorkerState → PermitFault →
    Type 0
IsFirstFault takes initial (t ∷ more) (receipt ∷ receipts) fault =
    HasMetFault takes initial t receipt fault
    ⊎ (HasDoneTask takes t receipt × IsFirstFault takes initial more receipts fault)
IsFirstFault takes initial given receipts fault = ⊥
